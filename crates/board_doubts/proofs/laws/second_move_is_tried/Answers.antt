use Rattle.board_doubts.proofs.Stops.{second_move_is_tried}
use Rattle.board_doubts.proofs.laws.second_move_is_tried.Goals as goal

pub returns : goal.returns
returns c = second_move_is_tried
