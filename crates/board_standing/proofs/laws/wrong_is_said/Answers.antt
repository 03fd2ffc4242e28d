use Rattle.board_standing.proofs.Meaning.{wrong_is_said}
use Rattle.board_standing.proofs.laws.wrong_is_said.Goals as goal

pub returns : goal.returns
returns c = wrong_is_said
