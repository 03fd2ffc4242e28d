use Rattle.board_alarms.proofs.Suspicion.{suspicion_stays_open}
use Rattle.board_alarms.proofs.laws.suspicion_stays_open.Goals as goal

pub returns : goal.returns
returns c = suspicion_stays_open
