use Rattle.board_doubts.proofs.Passing.{stays_doubtful}
use Rattle.board_doubts.proofs.laws.stays_doubtful.Goals as goal

pub returns : goal.returns
returns c = stays_doubtful
