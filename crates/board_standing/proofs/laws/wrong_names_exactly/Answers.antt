use Rattle.board_standing.proofs.Meaning.{wrong_names_exactly}
use Rattle.board_standing.proofs.laws.wrong_names_exactly.Goals as goal

pub returns : goal.returns
returns c = wrong_names_exactly
