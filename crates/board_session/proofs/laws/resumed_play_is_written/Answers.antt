use Rattle.board_session.proofs.LeftLemmas.{resumed_end_is_written, resumed_play_is_written, resumed_stop_is_written}
use Rattle.board_session.proofs.laws.resumed_play_is_written.Goals as goal

pub returns-clause-adds : goal.returns-clause-adds
returns-clause-adds c = resumed_play_is_written

pub returns-clause-stops : goal.returns-clause-stops
returns-clause-stops c = resumed_stop_is_written

pub returns-clause-ends : goal.returns-clause-ends
returns-clause-ends c = resumed_end_is_written
