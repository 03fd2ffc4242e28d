use Rattle.board_session.proofs.AnyLemmas.{honest_play_resumes, kings_end_resumed_play, resumed_play_stops}
use Rattle.board_session.proofs.laws.honest_play_resumes.Goals as goal

pub returns-clause-adds : goal.returns-clause-adds
returns-clause-adds c = honest_play_resumes

pub returns-clause-stops : goal.returns-clause-stops
returns-clause-stops c = resumed_play_stops

pub returns-clause-ends : goal.returns-clause-ends
returns-clause-ends c = kings_end_resumed_play
