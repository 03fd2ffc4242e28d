use Rattle.board_session.proofs.GameLemmas.{kings_end_is_recorded}
use Rattle.board_session.proofs.laws.kings_end_is_recorded.Goals as goal

pub returns : goal.returns
returns c = kings_end_is_recorded
