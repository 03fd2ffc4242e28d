use Rattle.board_doubts.proofs.Pressed.{press_passes}
use Rattle.board_doubts.proofs.laws.press_passes.Goals as goal

pub returns : goal.returns
returns c = press_passes
