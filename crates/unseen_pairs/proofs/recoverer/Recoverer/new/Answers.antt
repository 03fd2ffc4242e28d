use Prim.{search}
use Rattle.std.proofs.Common.{rules}
use Rattle.unseen_pairs.proofs.recoverer.Recoverer.new.Goals as goal

pub returns : goal.returns
returns c = search rules
