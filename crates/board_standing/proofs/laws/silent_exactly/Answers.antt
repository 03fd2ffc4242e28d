use Rattle.board_standing.proofs.Meaning.{silent_exactly}
use Rattle.board_standing.proofs.laws.silent_exactly.Goals as goal

pub returns : goal.returns
returns c = silent_exactly
