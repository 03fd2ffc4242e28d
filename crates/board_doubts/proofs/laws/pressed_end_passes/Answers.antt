use Rattle.board_doubts.proofs.Naming.{pressed_end_passes}
use Rattle.board_doubts.proofs.laws.pressed_end_passes.Goals as goal

pub returns : goal.returns
returns c = pressed_end_passes
