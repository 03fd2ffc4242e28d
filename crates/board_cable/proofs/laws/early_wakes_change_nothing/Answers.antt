use Rattle.board_cable.proofs.Early.{changes_nothing}
use Rattle.board_cable.proofs.laws.early_wakes_change_nothing.Goals as goal

pub returns : goal.returns
returns c = changes_nothing
