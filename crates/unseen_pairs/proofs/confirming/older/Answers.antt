use Prim.{search}
use Rattle.std.proofs.Common.{rules}
use Rattle.unseen_pairs.proofs.confirming.older.Goals as goal

pub returns-then-a-b : goal.returns-then-a-b
returns-then-a-b c = search rules
