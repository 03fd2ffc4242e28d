use Prim.{search}
use Rattle.std.proofs.Common.{rules}
use Rattle.chess_rules.proofs.chess_move.Move.copy.Goals as goal

pub returns : goal.returns
returns c = search rules
