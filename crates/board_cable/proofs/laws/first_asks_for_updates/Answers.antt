use Rattle.board_cable.proofs.Updates.{first_asks_for_updates}
use Rattle.board_cable.proofs.laws.first_asks_for_updates.Goals as goal

pub returns : goal.returns
returns c = first_asks_for_updates
