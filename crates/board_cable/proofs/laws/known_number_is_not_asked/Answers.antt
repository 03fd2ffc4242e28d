use Rattle.board_cable.proofs.Updates.{known_number_is_not_asked}
use Rattle.board_cable.proofs.laws.known_number_is_not_asked.Goals as goal

pub returns : goal.returns
returns c = known_number_is_not_asked
