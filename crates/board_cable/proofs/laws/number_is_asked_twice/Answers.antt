use Rattle.board_cable.proofs.Updates.{number_is_asked_twice}
use Rattle.board_cable.proofs.laws.number_is_asked_twice.Goals as goal

pub returns : goal.returns
returns c = number_is_asked_twice
