-- The last plies that nobody may have played, when a result is given: somebody resigns, hands are shaken, and pieces are pushed. Events
-- are listed with the latest first, times are milliseconds.
use Rattle.std.specs.Prelude.{ℕ, ◌+◌, ◌-◌, min, Bool, true, nat_lt, List, [], ◌∷◌, Option, Some, None, if◌then◌else◌}
use Rattle.square_runs.specs.Lasting.{carry, has_lasted}
use Rattle.board_doubts.specs.declared.heard.Event.{Event}
use Rattle.board_doubts.specs.declared.heard.Heard.{Heard}
use Rattle.board_doubts.specs.declared.heard.Heard.TheVariants.{Shows, Moves, Corrects, Agrees, Ends, Looked}
use Rattle.board_doubts.specs.declared.stopped_clock.Tried.{Tried}
use Rattle.board_doubts.specs.Clock.{ago, most, tried}
use Rattle.board_doubts.specs.Presses.{is_used, unpressed}

-- since when the board shows something else than the game's position, without a move
abbrev pub apart_by : Heard → ℕ → Option ℕ → Option ℕ
apart_by (Shows seen) at since = carry true at since
apart_by (Moves repeats) at since = None
apart_by (Corrects repeats) at since = None
apart_by Agrees at since = None
apart_by other at since = since

abbrev pub apart_since : List Event → Option ℕ
apart_since [] = None
apart_since (event ∷ past) = apart_by event.what event.at (apart_since past)

-- While it does so for this long, the row says WRONG.
abbrev pub wrong : ℕ
wrong = 10000

-- how many moves were made one after the other, each while the row said WRONG. What an arbiter added was played
abbrev pub odd_by : Heard → Bool → Bool → ℕ → ℕ
odd_by (Moves repeats) added wrong before = if added then 0 else if wrong then min most (before + 1) else 0
odd_by Looked added wrong before = 0
odd_by other added wrong before = before

abbrev pub odd : List Event → ℕ
odd [] = 0
odd (event ∷ past) = odd_by event.what event.is_added (has_lasted wrong event.at (apart_since past)) (odd past)

-- How many of the last plies have no press, though the players use a clock and it runs. The first of these isn't counted: who has just
-- moved when the other side resigns often hasn't pressed.
abbrev pub unpressed_last : List Event → ℕ
unpressed_last past = if is_used past then unpressed past - 1 else 0

abbrev pub tried_of : ℕ → ℕ → Option Tried
tried_of moves plies = if nat_lt 0 moves then Some (record { moves = moves; plies = plies }) else None

-- the first of these, if it is one
abbrev pub or_else : Option Tried → Option Tried → Option Tried
or_else None other = other
or_else (Some tried) other = Some tried

-- the last moves that nobody may have played: those that were made while the clock was stopped; else those while the row said WRONG; else
-- those that have no press
abbrev pub unplayed : List Event → Option Tried
unplayed past = or_else (tried_of (tried past) (ago past)) (or_else (tried_of (odd past) (odd past)) (tried_of (unpressed_last past) (unpressed_last past)))

-- They are named when the result is given.
abbrev pub unplayed_by : Heard → List Event → Option Tried
unplayed_by Ends past = unplayed past
unplayed_by other past = None

abbrev pub unplayed_of : Event → List Event → Option Tried
unplayed_of event past = unplayed_by event.what past
