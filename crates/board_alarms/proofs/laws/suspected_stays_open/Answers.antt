use Rattle.board_alarms.proofs.Suspecting.{suspected_stays_open}
use Rattle.board_alarms.proofs.laws.suspected_stays_open.Goals as goal

pub returns : goal.returns
returns c = suspected_stays_open
