use Rattle.board_live.proofs.Silent.{mute_board_is_said}
use Rattle.board_live.proofs.laws.mute_board_is_said.Goals as goal

pub returns : goal.returns
returns c = mute_board_is_said c.silent_after_seven_seconds.ensures c.silent_is_said.ensures
