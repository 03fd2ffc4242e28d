use Rattle.board_standing.proofs.Due.{stays_until_due}
use Rattle.board_standing.proofs.laws.stays_until_due.Goals as goal

pub returns : goal.returns
returns c = stays_until_due
