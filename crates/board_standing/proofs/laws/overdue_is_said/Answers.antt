use Rattle.board_standing.proofs.SetUps.{overdue_is_said}
use Rattle.board_standing.proofs.laws.overdue_is_said.Goals as goal

pub returns : goal.returns
returns c = overdue_is_said
