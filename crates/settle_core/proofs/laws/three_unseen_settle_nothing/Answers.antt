use Rattle.settle_core.proofs.Skipping.{three_unseen_add_nothing}
use Rattle.settle_core.proofs.Unseen.{three_settle_nothing}
use Rattle.settle_core.proofs.laws.three_unseen_settle_nothing.Goals as goal

pub returns-clause-settles : goal.returns-clause-settles
returns-clause-settles c = three_settle_nothing

pub returns-clause-score : goal.returns-clause-score
returns-clause-score c = three_unseen_add_nothing
