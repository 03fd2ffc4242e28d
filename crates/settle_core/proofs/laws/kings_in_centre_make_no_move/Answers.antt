use Rattle.settle_core.proofs.Whatever.{kings_keep_the_plies, kings_make_no_move}
use Rattle.settle_core.proofs.laws.kings_in_centre_make_no_move.Goals as goal

pub returns-clause-settles : goal.returns-clause-settles
returns-clause-settles c = kings_make_no_move

pub returns-clause-plies : goal.returns-clause-plies
returns-clause-plies c = kings_keep_the_plies
