use Prim.{search}
use Rattle.std.proofs.Common.{rules}
use Rattle.unseen_pairs.proofs.beginning.lands_theirs.Goals as goal

pub returns-then-is_owned : goal.returns-then-is_owned
returns-then-is_owned c = search rules
