use Rattle.board_cable.proofs.Updates.{lost_updates_are_asked}
use Rattle.board_cable.proofs.laws.lost_updates_are_asked.Goals as goal

pub returns : goal.returns
returns c = lost_updates_are_asked
