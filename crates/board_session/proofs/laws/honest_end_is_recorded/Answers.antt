use Rattle.board_session.proofs.LeftLemmas.{honest_end_is_recorded, honest_stop_anywhere_is_recorded}
use Rattle.board_session.proofs.laws.honest_end_is_recorded.Goals as goal

pub returns-clause-ends : goal.returns-clause-ends
returns-clause-ends c = honest_end_is_recorded

pub returns-clause-stops : goal.returns-clause-stops
returns-clause-stops c = honest_stop_anywhere_is_recorded
