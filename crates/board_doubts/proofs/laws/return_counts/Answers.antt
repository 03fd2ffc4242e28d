use Rattle.board_doubts.proofs.Going.{return_counts}
use Rattle.board_doubts.proofs.laws.return_counts.Goals as goal

pub returns : goal.returns
returns c = return_counts
