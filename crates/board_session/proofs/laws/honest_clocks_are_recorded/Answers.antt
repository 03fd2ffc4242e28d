use Rattle.board_session.proofs.GameLemmas.{honest_clocks_are_recorded}
use Rattle.board_session.proofs.laws.honest_clocks_are_recorded.Goals as goal

pub returns : goal.returns
returns c = honest_clocks_are_recorded
