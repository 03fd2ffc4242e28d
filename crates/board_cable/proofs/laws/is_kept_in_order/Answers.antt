use Rattle.board_cable.proofs.Kept.{kept_in_order}
use Rattle.board_cable.proofs.laws.is_kept_in_order.Goals as goal

pub returns : goal.returns
returns c = kept_in_order
