use Rattle.board_alarms.proofs.Opening.{open_exactly}
use Rattle.board_alarms.proofs.laws.is_open_exactly.Goals as goal

pub returns : goal.returns
returns c = open_exactly
