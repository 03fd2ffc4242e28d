use Rattle.board_endings.proofs.StayLemmas.{stays_over}
use Rattle.board_endings.proofs.laws.stays_over.Goals as goal

pub returns : goal.returns
returns c = stays_over
