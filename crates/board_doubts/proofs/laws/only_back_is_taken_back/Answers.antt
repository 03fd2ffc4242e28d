use Rattle.board_doubts.proofs.Reasons.{only_back_is_taken_back}
use Rattle.board_doubts.proofs.laws.only_back_is_taken_back.Goals as goal

pub returns : goal.returns
returns c = only_back_is_taken_back
