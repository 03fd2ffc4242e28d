use Prim.{search}
use Rattle.std.proofs.Common.{rules}
use Rattle.chess_rules.proofs.pieces.Side.other.Goals as goal

pub returns-in-White : goal.returns-in-White
returns-in-White c = search rules
