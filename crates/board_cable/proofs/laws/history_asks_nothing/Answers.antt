use Rattle.board_cable.proofs.Closed.{asks_nothing}
use Rattle.board_cable.proofs.laws.history_asks_nothing.Goals as goal

pub returns : goal.returns
returns c = asks_nothing
