use Rattle.board_doubts.proofs.Seventh.{seventh_lent_ply_is_doubted}
use Rattle.board_doubts.proofs.laws.seventh_lent_ply_is_doubted.Goals as goal

pub returns : goal.returns
returns c = seventh_lent_ply_is_doubted
