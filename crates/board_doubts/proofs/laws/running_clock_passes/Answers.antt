use Rattle.board_doubts.proofs.Passing.{running_clock_passes}
use Rattle.board_doubts.proofs.laws.running_clock_passes.Goals as goal

pub returns : goal.returns
returns c = running_clock_passes
