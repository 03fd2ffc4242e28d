use Prim.{search}
use Rattle.std.proofs.Common.{rules}
use Rattle.pair_frames.proofs.frames.fields_of.Goals as goal

pub returns-else-rotated-clause-same : goal.returns-else-rotated-clause-same
returns-else-rotated-clause-same c = search rules
