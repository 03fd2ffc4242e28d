use Rattle.board_live.proofs.Told.{clock_changes_are_said}
use Rattle.board_live.proofs.laws.clock_changes_are_said.Goals as goal

pub returns : goal.returns
returns c = clock_changes_are_said c.stops_once.ensures
