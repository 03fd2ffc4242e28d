use Prim.{search}
use Rattle.std.proofs.Common.{rules}
use Rattle.unseen_pairs.proofs.beginning.is_plain_pawn.Goals as goal

pub returns-then-row-gt1 : goal.returns-then-row-gt1
returns-then-row-gt1 c = search rules
