use Rattle.board_session.proofs.LeftLemmas.{restarts_are_recorded, restarts_are_written}
use Rattle.board_session.proofs.laws.restarts_are_recorded.Goals as goal

pub returns-clause-recorded : goal.returns-clause-recorded
returns-clause-recorded c = restarts_are_recorded c.shows_once.ensures c.fronts_show_fronts.ensures c.restarts_are_shown.ensures

pub returns-clause-written : goal.returns-clause-written
returns-clause-written c = restarts_are_written c.shows_once.ensures c.fronts_show_fronts.ensures c.restarts_are_shown.ensures
