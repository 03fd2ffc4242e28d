use Rattle.board_cable.proofs.Once.{turns_once}
use Rattle.board_cable.proofs.laws.is_told_once.Goals as goal

pub returns : goal.returns
returns c = turns_once
