use Rattle.settle_core.proofs.Skipping.{two_unseen_change_nothing}
use Rattle.settle_core.proofs.Unseen.{two_unseen_wait}
use Rattle.settle_core.proofs.laws.two_unseen_wait.Goals as goal

pub returns-clause-waits : goal.returns-clause-waits
returns-clause-waits c = two_unseen_wait

pub returns-clause-score : goal.returns-clause-score
returns-clause-score c = two_unseen_change_nothing
