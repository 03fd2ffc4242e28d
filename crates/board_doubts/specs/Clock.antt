-- Moves that are made while the clock is stopped. Events are listed with the latest first.
use Rattle.std.specs.Prelude.{ℕ, ◌+◌, ◌/◌, ◌%◌, min, ◌==◌, ◌&&◌, ◌||◌, not, Bool, true, false, List, [], ◌∷◌, Option, Some, None, is_some, slice_index, if◌then◌else◌}
use Rattle.square_runs.specs.Lasting.{carry, has_lasted}
use Rattle.board_doubts.specs.declared.heard.Event.{Event}
use Rattle.board_doubts.specs.declared.heard.Heard.{Heard}
use Rattle.board_doubts.specs.declared.heard.Heard.TheVariants.{Moves, Clock, Counts, Looked, Presses}
use Rattle.board_doubts.specs.declared.stopped_clock.Tried.{Tried}
use Rattle.board_doubts.specs.Unheard.{is_unheard}

-- An acknowledgement of a command to the clock has ten in the low four bits of the first or the fourth byte.
abbrev pub acknowledges : List ℕ → Bool
acknowledges bytes = (slice_index bytes 0 % 16 == 10) || (slice_index bytes 3 % 16 == 10)

-- Bit 5 of the seventh byte says that no clock is connected.
abbrev pub has_no_clock : List ℕ → Bool
has_no_clock bytes = slice_index bytes 6 / 32 % 2 == 1

-- whether the clock runs: bit 0 of the last of the seven bytes of a time message. An acknowledgement doesn't say, nor does a message
-- without a clock
abbrev pub running : List ℕ → Option Bool
running bytes = if acknowledges bytes || has_no_clock bytes then None else Some (slice_index bytes 6 % 2 == 1)

-- The clock has run in this game.
abbrev pub run_by : Heard → Bool → Bool
run_by (Clock runs) before = runs || before
run_by other before = before

abbrev pub has_run : List Event → Bool
has_run [] = false
has_run (event ∷ past) = run_by event.what (has_run past)

-- since when the clock has stood: since the first message that said so. A message that it runs ends this. So does a time in which the
-- board wasn't heard, if the clock has been pressed then, or has another time
abbrev pub stands_by : Heard → ℕ → Bool → Option ℕ → Option ℕ
stands_by (Clock runs) at unheard since = if runs then None else carry true at since
stands_by Presses at unheard since = if unheard then None else since
stands_by (Counts black) at unheard since = if unheard then None else since
stands_by other at unheard since = since

abbrev pub stands_since : List Event → Option ℕ
stands_since [] = None
stands_since (event ∷ past) = stands_by event.what event.at (is_unheard past) (stands_since past)

-- The clock has run, and stood when it spoke last.
abbrev pub has_stopped : List Event → Bool
has_stopped past = has_run past && is_some (stands_since past)

-- The clock has run, and stands now.
abbrev pub is_stopped : List Event → Bool
is_stopped past = has_run past && (is_some (stands_since past) && not (is_unheard past))

-- No more moves are counted than this.
abbrev pub most : ℕ
most = 9999

-- how many moves were made one after the other while the clock was stopped. The count begins anew when the clock runs, when a move
-- is made while it isn't stopped, and when somebody has looked. What an arbiter added was played, and isn't counted
abbrev pub tried_by : Heard → Bool → Bool → ℕ → ℕ
tried_by (Moves repeats) added stopped before = if added then before else if stopped then min most (before + 1) else 0
tried_by (Clock runs) added stopped before = if runs then 0 else before
tried_by Looked added stopped before = 0
tried_by other added stopped before = before

abbrev pub tried : List Event → ℕ
tried [] = 0
tried (event ∷ past) = tried_by event.what event.is_added (is_stopped past) (tried past)

-- how many plies ago the last move before these was made
abbrev pub ago_by : Heard → Bool → Bool → ℕ → ℕ
ago_by (Moves repeats) added none before = if none && not added then 1 else min most (before + 1)
ago_by other added none before = before

abbrev pub ago : List Event → ℕ
ago [] = 0
ago (event ∷ past) = ago_by event.what event.is_added (tried past == 0) (ago past)

-- A move may be seen as late as this after the clock was stopped, in milliseconds, though it was made before.
abbrev pub seen_late : ℕ
seen_late = 3000

-- A move that is seen now was made after the stop: it is seen later than that, or another one was seen since the stop.
abbrev pub is_after : ℕ → List Event → Bool
is_after now past = not (tried past == 0) || has_lasted seen_late now (stands_since past)

-- what somebody must look at if this move was made while the clock was stopped
abbrev pub tries_by : Heard → Event → List Event → Option Tried
tries_by (Moves repeats) event past =
    if not event.is_added && (is_stopped past && is_after event.at past)
    then Some (record { moves = tried (event ∷ past); plies = ago (event ∷ past) }) else None
tries_by other event past = None

abbrev pub tries_of : Event → List Event → Option Tried
tries_of event past = tries_by event.what event past
