use Prim.{search}
use Rattle.std.proofs.Common.{rules}
use Rattle.settle_core.proofs.settler.Settler.differs.Goals as goal

pub returns : goal.returns
returns c = search rules
