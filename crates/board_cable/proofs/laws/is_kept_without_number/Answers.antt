use Rattle.board_cable.proofs.Numberless.{numberless}
use Rattle.board_cable.proofs.laws.is_kept_without_number.Goals as goal

pub returns : goal.returns
returns c = numberless
