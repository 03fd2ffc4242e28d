use Rattle.going_back.proofs.ProposeLemmas.{fit_is_one}
use Rattle.going_back.proofs.laws.fit_is_one.Goals as goal

pub returns : goal.returns
returns c = fit_is_one c.moves_tell_texts.ensures
