use Rattle.board_standing.proofs.Throughout.{old_is_throughout}
use Rattle.board_standing.proofs.laws.old_is_throughout.Goals as goal

pub returns : goal.returns
returns c = old_is_throughout
