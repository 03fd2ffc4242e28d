use Rattle.square_runs.proofs.Due.{same_until_due}
use Rattle.square_runs.proofs.laws.same_until_due.Goals as goal

pub returns : goal.returns
returns c = same_until_due
