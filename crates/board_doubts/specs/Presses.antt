-- Whether players press their clock after a ply. Events are listed with the latest first.
use Rattle.std.specs.Prelude.{ℕ, ◌+◌, ◌-◌, ◌==◌, min, ◌&&◌, not, Bool, true, false, nat_le, nat_lt, List, [], ◌∷◌, Option, Some, None, if◌then◌else◌}
use Rattle.board_doubts.specs.declared.heard.Event.{Event}
use Rattle.board_doubts.specs.declared.heard.Heard.{Heard}
use Rattle.board_doubts.specs.declared.heard.Heard.TheVariants.{Clock, Counts, Plays, Presses}
use Rattle.board_doubts.specs.Pace.{last_within, quickest}
use Rattle.board_doubts.specs.Thinking.{counting, is_other}
use Rattle.board_doubts.specs.Unheard.{is_unheard}
use Rattle.board_doubts.specs.Waiting.{ply_times}

-- Somebody presses the clock: its lever is elsewhere, or now the other side's time goes down. (The clock speaks once a second. Two
-- presses in between leave its lever where it was.)
abbrev pub is_press : Heard → Option Bool → Bool
is_press Presses counts = true
is_press (Counts black) (Some before) = is_other black before
is_press other counts = false

abbrev pub presses : Heard → List Event → Bool
presses what past = is_press what (counting past)

-- when the clock was pressed last since the last ply
abbrev pub pressed_at_by : Heard → ℕ → Bool → Option ℕ → Option ℕ
pressed_at_by (Plays ply) at press before = None
pressed_at_by other at press before = if press then Some at else before

abbrev pub pressed_at : List Event → Option ℕ
pressed_at [] = None
pressed_at (event ∷ past) = pressed_at_by event.what event.at (presses event.what past) (pressed_at past)

-- Who presses while he sets his piece down is heard to press this long before the ply, in milliseconds, or less: the board looks at its
-- squares one after the other.
abbrev pub early : ℕ
early = 500

-- A ply that is made now was pressed for already.
abbrev pub is_early : ℕ → Option ℕ → Bool
is_early now None = false
is_early now (Some at) = nat_le (now - at) early

-- No more plies are counted than this.
abbrev pub most_quiet : ℕ
most_quiet = 4

-- What is counted isn't known while the clock isn't heard.
abbrev pub known : Bool → ℕ → ℕ
known unheard count = if unheard then 0 else count

-- how many of the last plies have no press, one after the other. A press is the last ply's, and an early one is the next ply's as well
abbrev pub quiet_by : Heard → Bool → Bool → Bool → ℕ → ℕ
quiet_by (Plays ply) press pressed unheard before = if pressed then 0 else min most_quiet (known unheard before + 1)
quiet_by other press pressed unheard before = if press then 0 else before

abbrev pub quiet : List Event → ℕ
quiet [] = 0
quiet (event ∷ past) = quiet_by event.what (presses event.what past) (is_early event.at (pressed_at past)) (is_unheard past) (quiet past)

-- The clock runs, by what it said last.
abbrev pub runs_by : Heard → Bool → Bool
runs_by (Clock runs) before = runs
runs_by other before = before

abbrev pub runs : List Event → Bool
runs [] = false
runs (event ∷ past) = runs_by event.what (runs past)

-- Players who use a clock press it at least once in so many plies.
abbrev pub many : ℕ
many = 6

-- A ply that is made now counts: the clock runs, and the ply took more than a second. (A quicker one and the one before it may both
-- have a press, though the clock doesn't say so.)
abbrev pub counts_now : List Event → Bool
counts_now past = runs past && not (last_within quickest (ply_times past))

-- how many plies were made since the clock was pressed, while it ran; many if it never was. What an arbiter added isn't counted
abbrev pub unpressed_by : Heard → Bool → Bool → ℕ → ℕ
unpressed_by (Plays ply) press counts before = if counts then min many (before + 1) else before
unpressed_by other press counts before = if press then 0 else before

abbrev pub unpressed : List Event → ℕ
unpressed [] = many
unpressed (event ∷ past) = unpressed_by event.what (presses event.what past) (counts_now past && not event.is_added) (unpressed past)

-- With this ply so many were made one after the other while the clock ran, and nobody pressed it.
abbrev pub is_left_by : Heard → Bool → ℕ → Bool
is_left_by (Plays ply) counts count = counts && (count + 1 == many)
is_left_by other counts count = false

-- The players use a clock.
abbrev pub is_used : List Event → Bool
is_used past = nat_lt (unpressed past) many
