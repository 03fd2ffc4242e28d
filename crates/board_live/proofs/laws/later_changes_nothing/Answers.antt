use Rattle.board_live.proofs.Later.{changes_nothing}
use Rattle.board_live.proofs.laws.later_changes_nothing.Goals as goal

pub returns : goal.returns
returns c = changes_nothing
