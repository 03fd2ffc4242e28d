use Prim.{search}
use Rattle.std.proofs.Common.{rules}
use Rattle.settle_core.proofs.compared.Compared.may_hide_two.Goals as goal

pub returns-then-ours_lost : goal.returns-then-ours_lost
returns-then-ours_lost c = search rules
