use Prim.{search}
use Rattle.std.proofs.Common.{rules}
use Rattle.unseen_pairs.proofs.beginning.is_plain_on.Goals as goal

pub returns-in-Some-Pawn : goal.returns-in-Some-Pawn
returns-in-Some-Pawn c = search rules
