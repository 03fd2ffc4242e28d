use Rattle.board_doubts.proofs.BackAtOnce.{taken_back_at_once}
use Rattle.board_doubts.proofs.laws.taken_back_at_once.Goals as goal

pub returns : goal.returns
returns c = taken_back_at_once
