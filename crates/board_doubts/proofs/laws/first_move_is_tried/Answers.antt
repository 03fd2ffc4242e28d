use Rattle.board_doubts.proofs.FirstTried.{first_move_is_tried}
use Rattle.board_doubts.proofs.laws.first_move_is_tried.Goals as goal

pub returns : goal.returns
returns c = first_move_is_tried
