use Rattle.board_doubts.proofs.Reasons.{own_time_passes}
use Rattle.board_doubts.proofs.laws.own_time_passes.Goals as goal

pub returns : goal.returns
returns c = own_time_passes
