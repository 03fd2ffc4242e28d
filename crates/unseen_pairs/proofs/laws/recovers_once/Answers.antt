use Rattle.unseen_pairs.proofs.Recovered as recovered
use Rattle.unseen_pairs.proofs.laws.recovers_once.Goals as goal

pub returns-clause-score : goal.returns-clause-score
returns-clause-score c = recovered.recovers_once

pub returns-clause-written : goal.returns-clause-written
returns-clause-written c = recovered.writes_once
