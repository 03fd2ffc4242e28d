use Rattle.board_standing.proofs.SetUps.{no_start_exactly}
use Rattle.board_standing.proofs.laws.no_start_exactly.Goals as goal

pub returns : goal.returns
returns c = no_start_exactly
