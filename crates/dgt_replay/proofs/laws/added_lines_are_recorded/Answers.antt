use Rattle.dgt_replay.proofs.AddedLemmas.{added_lines, recovered_lines}
use Rattle.dgt_replay.proofs.laws.added_lines_are_recorded.Goals as goal

pub returns-clause-recorded : goal.returns-clause-recorded
returns-clause-recorded c = added_lines c.shows_once.ensures c.folds_once.ensures

pub returns-clause-recovered : goal.returns-clause-recovered
returns-clause-recovered c = recovered_lines c.shows_once.ensures c.folds_once.ensures c.recovers_once.ensures.score
