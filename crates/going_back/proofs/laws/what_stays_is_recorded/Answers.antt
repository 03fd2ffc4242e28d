use Rattle.going_back.proofs.LawLemmas.{recorded_so}
use Rattle.going_back.proofs.laws.what_stays_is_recorded.Goals as goal

pub returns : goal.returns
returns c = recorded_so c.shows_once.ensures c.folds_once.ensures
