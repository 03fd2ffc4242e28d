use Prim.{search}
use Rattle.std.proofs.Common.{rules}
use Rattle.settle_core.proofs.compared.Compared.landed.Goals as goal

pub returns-clause-none : goal.returns-clause-none
returns-clause-none c = search rules
