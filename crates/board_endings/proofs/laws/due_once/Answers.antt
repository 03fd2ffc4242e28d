use Rattle.board_endings.proofs.DueLemmas.{due_once}
use Rattle.board_endings.proofs.laws.due_once.Goals as goal

pub returns : goal.returns
returns c = due_once
