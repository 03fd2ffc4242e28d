use Rattle.board_game.proofs.Stopped.{silent_is_told}
use Rattle.board_game.proofs.laws.silent_is_told.Goals as goal

pub returns : goal.returns
returns c = silent_is_told c.silent_exactly.ensures c.unplugged_exactly.ensures
