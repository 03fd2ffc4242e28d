use Rattle.board_doubts.proofs.Passing.{quick_correction_passes}
use Rattle.board_doubts.proofs.laws.quick_correction_passes.Goals as goal

pub returns : goal.returns
returns c = quick_correction_passes
