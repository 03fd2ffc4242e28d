use Rattle.going_back.proofs.LawLemmas.{comes_so}
use Rattle.going_back.proofs.laws.what_comes_is_recorded.Goals as goal

pub returns : goal.returns
returns c = comes_so c.shows_once.ensures c.folds_once.ensures
