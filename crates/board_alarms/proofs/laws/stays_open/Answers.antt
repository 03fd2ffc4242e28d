use Rattle.board_alarms.proofs.Opening.{stays_open}
use Rattle.board_alarms.proofs.laws.stays_open.Goals as goal

pub returns : goal.returns
returns c = stays_open
