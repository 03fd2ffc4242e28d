use Rattle.board_doubts.proofs.Going.{no_pawn_counts}
use Rattle.board_doubts.proofs.laws.no_pawn_counts.Goals as goal

pub returns : goal.returns
returns c = no_pawn_counts
