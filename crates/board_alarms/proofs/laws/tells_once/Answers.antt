use Rattle.board_alarms.proofs.OnceLemmas.{tells_once}
use Rattle.board_alarms.proofs.laws.tells_once.Goals as goal

pub returns : goal.returns
returns c = tells_once
