use Rattle.board_doubts.proofs.Returning.{silent_return_is_doubted}
use Rattle.board_doubts.proofs.laws.silent_return_is_doubted.Goals as goal

pub returns : goal.returns
returns c = silent_return_is_doubted
