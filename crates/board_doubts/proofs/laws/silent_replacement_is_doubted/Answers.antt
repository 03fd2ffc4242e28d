use Rattle.board_doubts.proofs.Reasons.{silent_replacement_is_doubted}
use Rattle.board_doubts.proofs.laws.silent_replacement_is_doubted.Goals as goal

pub returns : goal.returns
returns c = silent_replacement_is_doubted
