use Rattle.board_session.proofs.HonestLemmas.{kings_end_is_written}
use Rattle.board_session.proofs.laws.kings_end_is_written.Goals as goal

pub returns : goal.returns
returns c = kings_end_is_written c.shows_once.ensures
