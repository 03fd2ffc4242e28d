use Rattle.board_doubts.proofs.Reasons.{pressed_ply_passes}
use Rattle.board_doubts.proofs.laws.pressed_ply_passes.Goals as goal

pub returns : goal.returns
returns c = pressed_ply_passes
