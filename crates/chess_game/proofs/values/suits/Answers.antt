use Prim.{search}
use Rattle.std.proofs.Common.{rules}
use Rattle.chess_game.proofs.values.suits.Goals as goal

pub returns-else-not-is : goal.returns-else-not-is
returns-else-not-is c = search rules
