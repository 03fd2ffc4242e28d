use Rattle.board_session.proofs.GameLemmas.{honest_stop_is_recorded}
use Rattle.board_session.proofs.laws.honest_stop_is_recorded.Goals as goal

pub returns : goal.returns
returns c = honest_stop_is_recorded
