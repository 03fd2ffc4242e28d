use Rattle.dgt_replay.proofs.WentBackLemmas.{went_back, went_back_recovered}
use Rattle.dgt_replay.proofs.laws.went_back_is_recorded.Goals as goal

pub returns-clause-recorded : goal.returns-clause-recorded
returns-clause-recorded c = went_back c.what_stays_is_recorded.ensures

pub returns-clause-recovered : goal.returns-clause-recovered
returns-clause-recovered c = went_back_recovered c.shows_once.ensures c.folds_once.ensures c.recovers_once.ensures.score
