use Rattle.settle_core.proofs.Once.{folds_once}
use Rattle.settle_core.proofs.laws.folds_once.Goals as goal

pub returns : goal.returns
returns c = folds_once
