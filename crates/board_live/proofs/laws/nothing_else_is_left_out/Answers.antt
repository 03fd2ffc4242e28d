use Rattle.board_live.proofs.Owned.{nothing_else_is_left_out}
use Rattle.board_live.proofs.laws.nothing_else_is_left_out.Goals as goal

pub returns : goal.returns
returns c = nothing_else_is_left_out
