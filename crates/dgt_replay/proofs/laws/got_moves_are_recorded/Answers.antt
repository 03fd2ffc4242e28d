use Rattle.dgt_replay.proofs.GotMovesLemmas.{got_moves, got_moves_recovered}
use Rattle.dgt_replay.proofs.laws.got_moves_are_recorded.Goals as goal

pub returns-clause-recorded : goal.returns-clause-recorded
returns-clause-recorded c = got_moves c.what_comes_is_recorded.ensures

pub returns-clause-recovered : goal.returns-clause-recovered
returns-clause-recovered c = got_moves_recovered c.shows_once.ensures c.folds_once.ensures c.recovers_once.ensures.score
