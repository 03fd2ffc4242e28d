use Rattle.board_doubts.proofs.Reasons.{sixth_ply_is_doubted}
use Rattle.board_doubts.proofs.laws.sixth_ply_is_doubted.Goals as goal

pub returns : goal.returns
returns c = sixth_ply_is_doubted
