use Rattle.board_session.proofs.HonestLemmas.{honest_play_is_written}
use Rattle.board_session.proofs.laws.honest_play_is_written.Goals as goal

pub returns : goal.returns
returns c = honest_play_is_written c.shows_once.ensures
