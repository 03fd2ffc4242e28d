use Rattle.settle_core.proofs.Whatever.{nothing_is_invented}
use Rattle.settle_core.proofs.laws.nothing_is_invented.Goals as goal

pub returns : goal.returns
returns c = nothing_is_invented
