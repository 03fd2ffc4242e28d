use Rattle.board_cable.proofs.Others.{not_kept}
use Rattle.board_cable.proofs.laws.others_are_not_kept.Goals as goal

pub returns : goal.returns
returns c = not_kept
