-- How long the last move has stood, and how long the last plies took. Events are listed with the latest first, times are in
-- milliseconds, and none counts for longer than a day.
use Rattle.std.specs.Prelude.{ℕ, ◌+◌, ◌-◌, min, Bool, true, false, List, [], ◌∷◌, if◌then◌else◌}
use Rattle.board_doubts.specs.declared.heard.Event.{Event}
use Rattle.board_doubts.specs.declared.heard.Heard.{Heard}
use Rattle.board_doubts.specs.declared.heard.Heard.TheVariants.{Shows, Moves, Corrects}
use Rattle.board_doubts.specs.Recent.{day}

-- A move was played.
abbrev pub moved_by : Heard → Bool → Bool
moved_by (Moves repeats) before = true
moved_by (Corrects repeats) before = true
moved_by other before = before

abbrev pub has_moved : List Event → Bool
has_moved [] = false
has_moved (event ∷ past) = moved_by event.what (has_moved past)

-- The time since the last move or its correction. While the board shows the position before the move, no time counts.
abbrev pub waited_by : Heard → ℕ → ℕ → ℕ → ℕ → ℕ
waited_by (Moves repeats) at until to_it over_it = min day (until - at)
waited_by (Corrects repeats) at until to_it over_it = min day (until - at)
waited_by (Shows seen) at until to_it over_it = min day (to_it + (if seen.is_back then 0 else until - at))
waited_by other at until to_it over_it = over_it

abbrev pub waited : ℕ → List Event → ℕ
waited until [] = 0
waited until (event ∷ past) = waited_by event.what event.at until (waited event.at past) (waited until past)

-- how long each ply took, the latest first; of the first ply this isn't known
abbrev pub times_by : Heard → Bool → ℕ → List ℕ → List ℕ
times_by (Moves repeats) moved time before = if moved then time ∷ before else before
times_by other moved time before = before

abbrev pub ply_times : List Event → List ℕ
ply_times [] = []
ply_times (event ∷ past) = times_by event.what (has_moved past) (waited event.at past) (ply_times past)
