use Rattle.settle_core.proofs.Hands.{under_way_is_within_turn}
use Rattle.settle_core.proofs.laws.under_way_is_within_turn.Goals as goal

pub returns : goal.returns
returns c = under_way_is_within_turn
