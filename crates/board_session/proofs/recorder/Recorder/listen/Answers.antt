use Prim.{search}
use Rattle.std.proofs.Common.{rules}
use Rattle.board_session.proofs.recorder.Recorder.listen.Goals as goal

pub returns-in_err-send-clause-listened : goal.returns-in_err-send-clause-listened
returns-in_err-send-clause-listened g c = search rules

pub returns-clause-listened : goal.returns-clause-listened
returns-clause-listened g c = search rules
