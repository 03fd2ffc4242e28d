use Prim.{search}
use Rattle.std.proofs.Common.{rules}
use Rattle.pair_frames.proofs.frames.times_of.Goals as goal

pub returns-clause-same : goal.returns-clause-same
returns-clause-same c = search rules

pub returns-in_default-clause-same : goal.returns-in_default-clause-same
returns-in_default-clause-same c = search rules
