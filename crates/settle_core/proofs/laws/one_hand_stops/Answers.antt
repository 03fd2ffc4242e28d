use Rattle.settle_core.proofs.Holding.{one_hand_stops}
use Rattle.settle_core.proofs.laws.one_hand_stops.Goals as goal

pub returns : goal.returns
returns c = one_hand_stops
