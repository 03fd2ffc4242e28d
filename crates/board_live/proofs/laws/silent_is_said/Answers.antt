use Rattle.board_live.proofs.Silent.{silent_is_said}
use Rattle.board_live.proofs.laws.silent_is_said.Goals as goal

pub returns : goal.returns
returns c = silent_is_said
