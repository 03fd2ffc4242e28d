use Rattle.unseen_pairs.proofs.Recovered as recovered
use Rattle.unseen_pairs.proofs.laws.written_folds.Goals as goal

pub returns-clause-folds : goal.returns-clause-folds
returns-clause-folds c = recovered.written_folds

pub returns-clause-written : goal.returns-clause-written
returns-clause-written c = recovered.is_written
