use Rattle.board_alarms.proofs.GapLaws.{quiet_is_a_gap}
use Rattle.board_alarms.proofs.laws.quiet_is_a_gap.Goals as goal

pub returns : goal.returns
returns c = quiet_is_a_gap
