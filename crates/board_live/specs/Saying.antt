-- Which states are said. Lists have the latest first.
use Rattle.std.specs.Prelude.{◌≡◌, ◌<◌, ◌^◌, ℕ, Bool, true, false, if◌then◌else◌, List, [], ◌∷◌, Option, Some, None}
use Rattle.board_cable.specs.Whose.{is_own}
use Rattle.board_cable.specs.declared.happened.What.TheVariants.{Begins}
use Rattle.board_cable.specs.Turns.{Turn, told}
use Rattle.board_events.specs.Settings.{Setting}
use Rattle.board_game.specs.Games.{IsStateOf}
use Rattle.board_standing.specs.declared.state.Hint.{Hint}
use Rattle.board_standing.specs.declared.state.Hint.TheVariants.{OtherBoard}
use Rattle.board_standing.specs.declared.state.State.{State}
use Rattle.board_standing.specs.States.{IsNews}
use Rattle.board_live.specs.declared.happened.What.{What}
use Rattle.board_live.specs.declared.happened.What.TheVariants.{Cable, Keeps, KeepsAdded, Tells}
use Rattle.board_live.specs.declared.saying.Saying.{Saying}
use Rattle.board_live.specs.Coming.{came}
use Rattle.board_live.specs.Moments.{Moment, begins}

-- Of a board that is the game's own it isn't said that it may be another one.
abbrev pub but_other : Bool → Option Hint → Option Hint
but_other true (Some OtherBoard) = None
but_other own hint = hint

abbrev pub without_other : Bool → State → State
without_other own state = record { kind = state.kind; since = state.since; squares = state.squares; hint = but_other own state.hint }

-- This is read of the board at this time: how it stands by what came to the game, without that hint if the board is the game's own.
abbrev pub IsRead : Setting → Bool → List Moment → List Turn → ℕ → State → Type 0
IsRead setting recovers past turns now state = (stands : State) × IsStateOf setting recovers (came past turns) now stands
    × (state ≡ without_other (is_own (told turns)) stands)

-- This call has begun: what happens isn't only what was kept of the calls before.
abbrev pub live_by : What → Bool → Bool
live_by (Cable Begins) before = true
live_by Keeps before = false
live_by KeepsAdded before = false
live_by (Tells heard) before = false
live_by _ before = before

abbrev pub is_live : List Moment → Bool
is_live [] = false
is_live (moment ∷ past) = live_by moment.what (is_live past)

-- The first state is said, and then each that is news after the one that was said last.
abbrev pub SaysAfter : Option State → State → Option State → Type 0
SaysAfter None state said = said ≡ Some state
SaysAfter (Some before) state None = IsNews before state → ⊥
SaysAfter (Some before) state (Some now) = IsNews before state × (now ≡ state)

-- Before a call has begun none is said.
abbrev pub Says : Bool → Option State → State → Option State → Type 0
Says true before state said = SaysAfter before state said
Says false before state said = said ≡ None

-- what was said last in this call
abbrev pub said_before : What → Option State → Option State
said_before what last = if begins what then None else last

abbrev pub last_said : Option State → Option State → Option State
last_said None before = before
last_said (Some state) before = Some state

-- The state that is said at the last of these moments, and the one that was said last, then or before.
abbrev pub IsSaid : Setting → Bool → List Moment → List Turn → Option State → Option State → Type 0
IsSaid setting recovers [] turns said last = (said ≡ None) × (last ≡ None)
IsSaid setting recovers (moment ∷ past) [] said last = ⊥
IsSaid setting recovers (moment ∷ past) (turn ∷ turns) said last = (state : State) × (earlier before : Option State)
    × IsSaid setting recovers past turns earlier before × IsRead setting recovers (moment ∷ past) (turn ∷ turns) moment.at state
    × (state.squares < 2 ^ 64)
    × Says (is_live (moment ∷ past)) (said_before moment.what before) state said × (last ≡ last_said said (said_before moment.what before))

-- This was said.
pub record HasSaid (saying : Saying) (setting : Setting) (recovers : Bool) (past : List Moment) (turns : List Turn) : Type 0 where
  pub live : saying.is_live ≡ is_live past
  pub said : Option State
  pub is_said : IsSaid setting recovers past turns said saying.last
