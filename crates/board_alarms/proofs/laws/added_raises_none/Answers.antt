use Rattle.board_alarms.proofs.Opening.{added_raises_none}
use Rattle.board_alarms.proofs.laws.added_raises_none.Goals as goal

pub returns : goal.returns
returns c = added_raises_none
