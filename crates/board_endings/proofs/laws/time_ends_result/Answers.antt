use Rattle.board_endings.proofs.TimedResult.{time_ends_result}
use Rattle.board_endings.proofs.laws.time_ends_result.Goals as goal

pub returns : goal.returns
returns c = time_ends_result
