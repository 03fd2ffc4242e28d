use Rattle.board_endings.proofs.DueLemmas.{same_until_due}
use Rattle.board_endings.proofs.laws.same_until_due.Goals as goal

pub returns : goal.returns
returns c = same_until_due
