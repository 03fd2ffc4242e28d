use Rattle.board_endings.proofs.HeardResult.{heard_result_ends}
use Rattle.board_endings.proofs.laws.heard_result_ends.Goals as goal

pub returns : goal.returns
returns c = heard_result_ends
