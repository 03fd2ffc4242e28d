-- Whether the start is shown again. Pictures are listed with the latest first, each as the mask of the squares that are off the
-- start.
use Rattle.std.specs.Prelude.{ℕ, ◌==◌, ◌&&◌, ◌||◌, not, Bool, false, nat_lt, List, [], ◌∷◌, count_ones, if◌then◌else◌}

-- A move changes this many squares at most. So e4, taken back, is no set-up.
abbrev pub one_move : ℕ
one_move = 4

-- Since the start was last shown, more squares were off it than a move changes.
abbrev pub was_away : List ℕ → Bool
was_away [] = false
was_away (off ∷ before) = if count_ones off == 0 then false else (nat_lt one_move (count_ones off) || was_away before)

-- This picture ends the game: it shows the start, which was away before, and the game isn't at its start.
abbrev pub ends_by : ℕ → Bool → List ℕ → Bool
ends_by off at_start past = (count_ones off == 0) && (was_away past && not at_start)
