use Rattle.board_alarms.proofs.GapLaws.{cut_is_a_gap}
use Rattle.board_alarms.proofs.laws.cut_is_a_gap.Goals as goal

pub returns : goal.returns
returns c = cut_is_a_gap
