use Rattle.board_session.proofs.BoardLemmas.{honest_boards_are_read}
use Rattle.board_session.proofs.laws.honest_boards_are_read.Goals as goal

pub returns : goal.returns
returns c = honest_boards_are_read
