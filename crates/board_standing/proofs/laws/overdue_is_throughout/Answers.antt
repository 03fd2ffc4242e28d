use Rattle.board_standing.proofs.Throughout.{overdue_is_throughout}
use Rattle.board_standing.proofs.laws.overdue_is_throughout.Goals as goal

pub returns : goal.returns
returns c = overdue_is_throughout
