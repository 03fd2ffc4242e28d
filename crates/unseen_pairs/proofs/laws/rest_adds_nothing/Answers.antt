use Rattle.unseen_pairs.proofs.Resting.{rest_adds_nothing}
use Rattle.unseen_pairs.proofs.laws.rest_adds_nothing.Goals as goal

pub returns : goal.returns
returns c = rest_adds_nothing
