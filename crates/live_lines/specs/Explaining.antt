-- What explains a board that doesn't stand as its game. Items are listed with the latest first.
use Rattle.std.specs.Prelude.{◌≡◌, ℕ, Bool, List, [], Option, Some, None}
use Rattle.chess_rules.specs.declared.parts.Parts.{Parts}
use Rattle.board_events.specs.Session.{entries_in}
use Rattle.board_events.specs.Settings.{Setting}
use Rattle.board_game.specs.History.{Came, Item, Makes, events_of}
use Rattle.board_standing.specs.declared.state.Kind.{Kind}
use Rattle.board_standing.specs.declared.state.Kind.TheVariants.{Wrong}
use Rattle.board_standing.specs.declared.state.State.{State}
use Rattle.going_back.specs.Proposing.{SaysFit}
use Rattle.settle_core.specs.declared.plies.Ply.{Ply}
use Rattle.settle_core.specs.Settler.{SettlerState, HasSettled, plies_of}

-- The line is what is typed for the change that alone explains what the board was seen to show last; none if it has shown nothing.
abbrev pub SaysFitOf : Parts → List Ply → Option (List ℕ) → List ℕ → Type 0
SaysFitOf start plies None line = line ≡ []
SaysFitOf start plies (Some seen) line = SaysFit start plies seen line

-- The game is folded from the events of all bytes, and from those that are put in for recovered pairs.
abbrev pub Explains : Setting → Bool → List Came → List ℕ → Type 0
Explains setting recovers past line = (items : List Item) × (game : SettlerState) × Makes setting recovers past items
    × HasSettled game setting.start (entries_in setting (events_of items)) × SaysFitOf game.start (plies_of game) game.last line

-- It is said with WRONG, and with nothing else.
abbrev pub ExplainsIf : Kind → Setting → Bool → List Came → List ℕ → Type 0
ExplainsIf Wrong setting recovers past line = Explains setting recovers past line
ExplainsIf other setting recovers past line = line ≡ []

abbrev pub ExplainsSaid : Option State → Setting → Bool → List Came → List ℕ → Type 0
ExplainsSaid None setting recovers past line = line ≡ []
ExplainsSaid (Some state) setting recovers past line = ExplainsIf state.kind setting recovers past line
