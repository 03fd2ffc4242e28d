use Rattle.board_endings.proofs.Agreeing.{position_agrees}
use Rattle.board_endings.proofs.laws.position_agrees.Goals as goal

pub returns : goal.returns
returns c = position_agrees
