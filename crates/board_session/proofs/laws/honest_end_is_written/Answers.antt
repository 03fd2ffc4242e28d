use Rattle.board_session.proofs.LeftLemmas.{honest_end_is_written}
use Rattle.board_session.proofs.laws.honest_end_is_written.Goals as goal

pub returns : goal.returns
returns c = honest_end_is_written c.shows_once.ensures
