-- The result of a game.
use Rattle.std.specs.Prelude.{◌≡◌, Option, Some}
use Rattle.chess_rules.specs.declared.pieces.Side.{Side}
use Rattle.chess_rules.specs.declared.pieces.Side.TheVariants.{White, Black}
use Rattle.chess_rules.specs.declared.parts.Parts.{Parts}
use Rattle.chess_rules.specs.Board.{other}
use Rattle.chess_rules.specs.Legal.{Mated, Stale}
use Rattle.settle_core.specs.declared.plies.Outcome.{Outcome}
use Rattle.settle_core.specs.declared.plies.Outcome.TheVariants.{WhiteWins, BlackWins, Drawn}

abbrev pub win_of : Side → Outcome
win_of White = WhiteWins
win_of Black = BlackWins

-- The result where the last position is p and this sign stands: at checkmate the winner, at stalemate a draw, else the
-- sign.
pub record IsResult (p : Parts) (sign result : Option Outcome) : Type 0 where
  pub mated : Mated p → result ≡ Some (win_of (other p.side))
  pub stale : Stale p → result ≡ Some Drawn
  pub running : ¬ Mated p → ¬ Stale p → result ≡ sign
