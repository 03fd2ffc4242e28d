-- What a board is sent. Events are listed with the latest first, times are milliseconds.
use Rattle.std.specs.Prelude.{◌≢◌, ◌⊎◌, ℕ, ◌||◌, List, ◌∷◌, Option, Some, None, if◌then◌else◌}
use Rattle.board_cable.specs.declared.line.Event.{Event}
use Rattle.board_cable.specs.declared.line.Request.{Request}
use Rattle.board_cable.specs.declared.line.Request.TheVariants.{Dump, Numbered, Start}
use Rattle.board_cable.specs.declared.line.Happening.TheVariants.{Asks}
use Rattle.board_cable.specs.declared.asking.Asking.{Asking}
use Rattle.board_cable.specs.Line.{is_unanswered}
use Rattle.board_cable.specs.Pace.{asks, HasPace}
use Rattle.board_cable.specs.Silence.{HasSilence}
use Rattle.board_cable.specs.Starting.{HasStarting, is_start}
use Rattle.board_cable.specs.Whose.{HasWhose, handling_at, is_number_asked}

-- The next request: for updates too if the last one is unanswered, or the board may not know that they are wanted; each such one
-- asks for the serial number, and so do two after it if the board has one.
abbrev pub next_request : List Event → Request
next_request past = if is_unanswered past || is_start past then Start else (if is_number_asked past then Numbered else Dump)

-- What the board is sent, if the recorder wakes now.
abbrev pub request_at : ℕ → List Event → Option Request
request_at now past = if asks now past then Some (next_request past) else None

-- A request that is sent is an event.
abbrev pub with_request : ℕ → Option Request → List Event → List Event
with_request now None past = past
with_request now (Some request) past = record { at = now; what = Asks request } ∷ past

-- At the later time the board is asked otherwise than now, or something else is done with what it sends.
abbrev pub Changes : ℕ → List Event → ℕ → Type 0
Changes now past later = (asks later past ≢ asks now past) ⊎ (handling_at later past ≢ handling_at now past)

-- This happened, the latest first.
pub record StandsFor (asking : Asking) (past : List Event) : Type 0 where
  pub pace : HasPace asking.pace past
  pub starting : HasStarting asking.starting past
  pub silence : HasSilence asking.silence past
  pub whose : HasWhose asking.whose past
