use Rattle.board_doubts.proofs.Passing.{hands_off_passes}
use Rattle.board_doubts.proofs.laws.hands_off_passes.Goals as goal

pub returns : goal.returns
returns c = hands_off_passes
