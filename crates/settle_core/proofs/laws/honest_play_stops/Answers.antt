use Rattle.settle_core.proofs.Fronts.{honest_stops}
use Rattle.settle_core.proofs.laws.honest_play_stops.Goals as goal

pub returns : goal.returns
returns c = honest_stops
