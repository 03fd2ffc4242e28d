use Rattle.board_session.proofs.GameLemmas.{honest_play_is_recorded}
use Rattle.board_session.proofs.laws.honest_play_is_recorded.Goals as goal

pub returns : goal.returns
returns c = honest_play_is_recorded
