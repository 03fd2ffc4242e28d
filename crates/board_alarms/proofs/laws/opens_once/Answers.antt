use Rattle.board_alarms.proofs.OnceLemmas.{opens_once}
use Rattle.board_alarms.proofs.laws.opens_once.Goals as goal

pub returns : goal.returns
returns c = opens_once
