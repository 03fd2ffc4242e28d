use Rattle.unseen_pairs.proofs.Recovered.{nothing_confirmed, nothing_put_in}
use Rattle.unseen_pairs.proofs.laws.nothing_confirmed_nothing_put_in.Goals as goal

pub returns-clause-score : goal.returns-clause-score
returns-clause-score c = nothing_confirmed

pub returns-clause-written : goal.returns-clause-written
returns-clause-written c = nothing_put_in
