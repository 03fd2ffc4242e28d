use Rattle.board_alarms.proofs.OnceLemmas.{stops_once}
use Rattle.board_alarms.proofs.laws.stops_once.Goals as goal

pub returns : goal.returns
returns c = stops_once
