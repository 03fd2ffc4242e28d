use Rattle.unseen_pairs.proofs.Coming as coming
use Rattle.unseen_pairs.proofs.laws.nothing_is_invented.Goals as goal

pub returns : goal.returns
returns c = coming.nothing_is_invented
