use Rattle.board_doubts.proofs.Naming.{stopped_move_is_named}
use Rattle.board_doubts.proofs.laws.stopped_move_is_named.Goals as goal

pub returns : goal.returns
returns c = stopped_move_is_named
