use Rattle.settle_core.proofs.Once.{signs_settle_nothing}
use Rattle.settle_core.proofs.laws.signs_settle_nothing.Goals as goal

pub returns : goal.returns
returns c = signs_settle_nothing
