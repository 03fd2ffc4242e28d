use Rattle.board_live.proofs.Dues.{wakes_once}
use Rattle.board_live.proofs.laws.wakes_once.Goals as goal

pub returns : goal.returns
returns c = wakes_once c.hears_once.ensures c.end_due_once.ensures
