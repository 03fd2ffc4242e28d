use Rattle.settle_core.proofs.Waiting.{resting_waits}
use Rattle.settle_core.proofs.laws.resting_waits.Goals as goal

pub returns : goal.returns
returns c = resting_waits
