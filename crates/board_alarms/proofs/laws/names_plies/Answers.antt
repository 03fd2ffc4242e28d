use Rattle.board_alarms.proofs.NamingPlies.{names_plies}
use Rattle.board_alarms.proofs.laws.names_plies.Goals as goal

pub returns : goal.returns
returns c = names_plies
