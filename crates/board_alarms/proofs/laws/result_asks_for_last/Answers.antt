use Rattle.board_alarms.proofs.Opening.{result_asks_for_last}
use Rattle.board_alarms.proofs.laws.result_asks_for_last.Goals as goal

pub returns : goal.returns
returns c = result_asks_for_last
