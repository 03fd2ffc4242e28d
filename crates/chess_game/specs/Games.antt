-- What a game contains.
use Rattle.std.specs.Prelude.{List, Option, All}
use Rattle.std.specs.Option.{ForSome}
use Rattle.chess_clock.specs.Clock.{IsTime}
use Rattle.chess_rules.specs.declared.parts.Parts.{Parts}
use Rattle.chess_rules.specs.Valid.{Valid}
use Rattle.settle_core.specs.declared.plies.Outcome.{Outcome}
use Rattle.settle_core.specs.declared.plies.Ply.{Ply}
use Rattle.settle_core.specs.Settling.{Line, position_after}
use Rattle.settle_core.specs.Folding.{moves_of}
use Rattle.settle_core.specs.GameResult.{IsResult}
use Rattle.chess_game.specs.Values.{TagValues, AreValues}

-- The plies stand in their order.
pub record Content : Type 0 where
  pub tags : TagValues
  pub start : Parts
  pub plies : List Ply
  pub result : Option Outcome

-- The result of a line over which this sign stands: the winner at checkmate, a draw at stalemate, else the sign, if
-- any.
abbrev pub Result : Parts → List Ply → Option Outcome → Option Outcome → Type 0
Result start plies sign result = IsResult (position_after start (moves_of plies)) sign result

abbrev pub IsTimed : Ply → Type 0
IsTimed ply = ForSome ply.clock IsTime

-- A game: six tag values, a valid start, a legal line with clocks in range, and the result that it has with some sign
-- or none.
pub record IsGame (game : Content) : Type 0 where
  pub tags : AreValues game.tags
  pub start : Valid game.start
  pub line : Line game.start (moves_of game.plies)
  pub clocks : All IsTimed game.plies
  pub sign : Option Outcome
  pub result : Result game.start game.plies sign game.result
