use Rattle.board_standing.proofs.Meaning.{agrees_exactly}
use Rattle.board_standing.proofs.laws.agrees_exactly.Goals as goal

pub returns : goal.returns
returns c = agrees_exactly
