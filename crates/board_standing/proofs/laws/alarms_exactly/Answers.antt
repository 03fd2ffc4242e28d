use Rattle.board_standing.proofs.Alarms.{alarms_exactly}
use Rattle.board_standing.proofs.laws.alarms_exactly.Goals as goal

pub returns : goal.returns
returns c = alarms_exactly
