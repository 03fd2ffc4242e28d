use Rattle.board_cable.proofs.Aside.{taken_board_is_own}
use Rattle.board_cable.proofs.laws.taken_board_is_own.Goals as goal

pub returns : goal.returns
returns c = taken_board_is_own
