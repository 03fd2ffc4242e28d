use Prim.{search}
use Rattle.std.proofs.Common.{rules}
use Rattle.chess_rules.proofs.walk.is_pawn_diagonal.Goals as goal

pub returns-in-SouthEast : goal.returns-in-SouthEast
returns-in-SouthEast c = search rules

pub returns-in_default : goal.returns-in_default
returns-in_default c = search rules
