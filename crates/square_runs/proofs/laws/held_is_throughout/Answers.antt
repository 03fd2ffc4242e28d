use Rattle.square_runs.proofs.Moments.{held_is_throughout}
use Rattle.square_runs.proofs.laws.held_is_throughout.Goals as goal

pub returns : goal.returns
returns c = held_is_throughout
