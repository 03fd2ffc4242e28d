use Rattle.board_live.proofs.Owned.{own_board_is_no_other}
use Rattle.board_live.proofs.laws.own_board_is_no_other.Goals as goal

pub returns : goal.returns
returns c = own_board_is_no_other c.own_sends_known_number.ensures
