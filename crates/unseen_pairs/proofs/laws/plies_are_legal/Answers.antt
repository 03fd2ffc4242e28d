use Rattle.unseen_pairs.proofs.Recovered as recovered
use Rattle.unseen_pairs.proofs.laws.plies_are_legal.Goals as goal

pub returns : goal.returns
returns c = recovered.plies_are_legal
