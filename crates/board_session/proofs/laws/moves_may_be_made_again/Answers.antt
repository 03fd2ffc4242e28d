use Rattle.board_session.proofs.LeftLemmas.{made_again_is_recorded, made_again_is_written}
use Rattle.board_session.proofs.laws.moves_may_be_made_again.Goals as goal

pub returns-clause-recorded : goal.returns-clause-recorded
returns-clause-recorded c = made_again_is_recorded

pub returns-clause-written : goal.returns-clause-written
returns-clause-written c = made_again_is_written c.shows_once.ensures
