use Rattle.board_alarms.proofs.Opening.{looked_ends_all}
use Rattle.board_alarms.proofs.laws.looked_ends_all.Goals as goal

pub returns : goal.returns
returns c = looked_ends_all
