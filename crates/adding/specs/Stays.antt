-- The game of a capture, with more bytes or without. Events are listed with the latest first, plies stand in their order.
use Rattle.std.specs.Prelude.{◌≡◌, ◌⊎◌, ℕ, Bool, List, [], ◌++◌, Option}
use Rattle.dgt_frame.specs.declared.events.Event.{Event}
use Rattle.settle_core.specs.declared.plies.Outcome.{Outcome}
use Rattle.settle_core.specs.declared.plies.Ply.{Ply}
use Rattle.settle_core.specs.Entries.{deduplicated}
use Rattle.settle_core.specs.Folding.{Folds, score_of}
use Rattle.board_events.specs.Session.{entries_in}
use Rattle.board_events.specs.Settings.{Setting}
use Rattle.board_captures.specs.Reading.{IsRead, IsTooLong}

-- the game of these events: its plies and the sign that stands
abbrev pub HasScore : Setting → List Event → List Ply → Option Outcome → Type 0
HasScore setting past plies sign = Folds setting.start (deduplicated (entries_in setting past)) (score_of plies sign)

-- The capture, read so, has this game.
abbrev pub HasGame : Setting → Bool → List ℕ → List Ply → Option Outcome → Type 0
HasGame setting recovers bytes plies sign = (past : List Event) × IsRead setting recovers bytes past × HasScore setting past plies sign

-- It has another one.
abbrev pub HasOther : Setting → Bool → List ℕ → List Ply → Option Outcome → Type 0
HasOther setting recovers bytes plies sign = (others : List Ply) × (other : Option Outcome) × HasGame setting recovers bytes others other
    × ((others ≡ plies) → (other ≡ sign) → ⊥)

-- Behind the capture these bytes give this game; and it stays if the board shows once more what it has shown last.
pub record Stays (setting : Setting) (recovers : Bool) (capture added again : List ℕ) (plies : List Ply) (sign : Option Outcome) : Type 0 where
  pub at_once : HasGame setting recovers (capture ++ (added ++ [])) plies sign
  pub shown_again : HasGame setting recovers (capture ++ (added ++ again)) plies sign

-- At once, or if the board shows once more what it has shown last, the game is another one.
abbrev pub Changes : Setting → Bool → List ℕ → List ℕ → List ℕ → List Ply → Option Outcome → Type 0
Changes setting recovers capture added again plies sign = HasOther setting recovers (capture ++ (added ++ [])) plies sign
    ⊎ HasOther setting recovers (capture ++ (added ++ again)) plies sign

-- There is no room for these bytes, or for that picture behind them.
abbrev pub HasNoRoom : Setting → Bool → List ℕ → List ℕ → List ℕ → Type 0
HasNoRoom setting recovers capture added again = IsTooLong setting recovers (capture ++ (added ++ []))
    ⊎ IsTooLong setting recovers (capture ++ (added ++ again))
