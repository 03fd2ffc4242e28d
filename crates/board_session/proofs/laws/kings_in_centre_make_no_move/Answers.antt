use Rattle.board_session.proofs.AnyLemmas.{kings_in_centre_keep_the_plies}
use Rattle.board_session.proofs.LeftLemmas.{kings_in_centre_write_no_move}
use Rattle.board_session.proofs.laws.kings_in_centre_make_no_move.Goals as goal

pub returns-clause-recorded : goal.returns-clause-recorded
returns-clause-recorded c = kings_in_centre_keep_the_plies

pub returns-clause-written : goal.returns-clause-written
returns-clause-written c = kings_in_centre_write_no_move
