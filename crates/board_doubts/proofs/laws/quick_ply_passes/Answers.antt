use Rattle.board_doubts.proofs.Reasons.{quick_ply_passes}
use Rattle.board_doubts.proofs.laws.quick_ply_passes.Goals as goal

pub returns : goal.returns
returns c = quick_ply_passes
