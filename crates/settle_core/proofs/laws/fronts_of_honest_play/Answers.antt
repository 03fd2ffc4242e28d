use Rattle.settle_core.proofs.Fronts.{honest_fronts}
use Rattle.settle_core.proofs.laws.fronts_of_honest_play.Goals as goal

pub returns : goal.returns
returns c = honest_fronts
