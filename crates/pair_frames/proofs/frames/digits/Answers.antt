use Prim.{search}
use Rattle.std.proofs.Common.{rules}
use Rattle.pair_frames.proofs.frames.digits.Goals as goal

pub returns-clause-same : goal.returns-clause-same
returns-clause-same c = search rules
