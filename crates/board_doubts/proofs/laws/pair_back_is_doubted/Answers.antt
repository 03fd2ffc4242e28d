use Rattle.board_doubts.proofs.Reasons.{pair_back_is_doubted}
use Rattle.board_doubts.proofs.laws.pair_back_is_doubted.Goals as goal

pub returns : goal.returns
returns c = pair_back_is_doubted
