use Rattle.going_back.proofs.LawLemmas.{stays_away}
use Rattle.going_back.proofs.laws.what_went_stays_away.Goals as goal

pub returns : goal.returns
returns c = stays_away
