use Rattle.board_doubts.proofs.Again.{clock_is_known_again}
use Rattle.board_doubts.proofs.laws.clock_is_known_again.Goals as goal

pub returns : goal.returns
returns c = clock_is_known_again
