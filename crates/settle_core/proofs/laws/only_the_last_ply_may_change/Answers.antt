use Rattle.settle_core.proofs.Whatever.{only_the_last_may_change}
use Rattle.settle_core.proofs.laws.only_the_last_ply_may_change.Goals as goal

pub returns : goal.returns
returns c = only_the_last_may_change
