use Rattle.std.proofs.Common.{refl}
use Rattle.board_session.proofs.recorder.Recorder.count.Goals as goal

pub returns-in-Fault-clause-messages : goal.returns-in-Fault-clause-messages
returns-in-Fault-clause-messages c = rw c.in-Fault.is refl

pub returns-in-Fault-clause-faults : goal.returns-in-Fault-clause-faults
returns-in-Fault-clause-faults c = rw c.in-Fault.is refl
