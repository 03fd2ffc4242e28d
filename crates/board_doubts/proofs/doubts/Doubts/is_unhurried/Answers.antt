use Rattle.std.proofs.Common.{not, ap}
use Rattle.board_doubts.specs.Waiting.{ply_times}
use Rattle.board_doubts.proofs.doubts.Doubts.is_unhurried.Goals as goal

pub returns : goal.returns
returns c past keeps = ap not (c.is_half_within.ensures (ply_times past) keeps.pace)
