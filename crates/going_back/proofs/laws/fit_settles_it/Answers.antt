use Rattle.going_back.proofs.ProposeLemmas.{fit_settles_it}
use Rattle.going_back.proofs.laws.fit_settles_it.Goals as goal

pub returns : goal.returns
returns c = fit_settles_it
