-- When a board is asked for a dump. Events are listed with the latest first, times are milliseconds.
use Rattle.std.specs.Prelude.{◌≡◌, ◌<◌, ◌≤◌, ◌^◌, ℕ, ◌&&◌, ◌||◌, Bool, List, Option, if◌then◌else◌}
use Rattle.board_cable.specs.Lasting.{has_lasted, is_past, IsBefore}
use Rattle.board_cable.specs.declared.line.Event.{Event}
use Rattle.board_cable.specs.declared.pace.Pace.{Pace}
use Rattle.board_cable.specs.Line.{asked_at, dumped_at, is_open, is_unanswered, is_wanted, unfinished_at, updated_at}

-- The board may be asked: it wasn't for 0.2 s, or for 1 s while that request is unanswered.
abbrev pub may_ask : ℕ → List Event → Bool
may_ask now past = is_past (if is_unanswered past then 1000 else 200) now (asked_at past)

-- A dump would help: it is wanted; a frame has been unfinished for 0.2 s; the last one is 1 s old, and no update has come for
-- 0.5 s; or it is 4 s old.
abbrev pub would_help : ℕ → List Event → Bool
would_help now past = is_wanted past || (has_lasted 200 now (unfinished_at past)
    || ((has_lasted 1000 now (dumped_at past) && is_past 500 now (updated_at past)) || has_lasted 4000 now (dumped_at past)))

-- The board is asked now, if the recorder wakes.
abbrev pub asks : ℕ → List Event → Bool
asks now past = is_open past && (may_ask now past && would_help now past)

-- Before this time it is asked then if it is asked now, and not else.
abbrev pub AsksAlike : ℕ → List Event → Option ℕ → Type 0
AsksAlike now past due = (later : ℕ) → later < 2 ^ 64 → now ≤ later → IsBefore later due → asks later past ≡ asks now past

-- This happened, the latest first.
pub record HasPace (pace : Pace) (past : List Event) : Type 0 where
  pub open_is : pace.is_open ≡ is_open past
  pub wanted : pace.is_wanted ≡ is_wanted past
  pub unanswered : pace.is_unanswered ≡ is_unanswered past
  pub asked : pace.asked ≡ asked_at past
  pub unfinished : pace.unfinished ≡ unfinished_at past
  pub updated : pace.updated ≡ updated_at past
  pub dumped : pace.dumped ≡ dumped_at past
