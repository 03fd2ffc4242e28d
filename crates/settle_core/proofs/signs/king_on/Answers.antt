use Prim.{search}
use Rattle.std.proofs.Common.{rules}
use Rattle.settle_core.proofs.signs.king_on.Goals as goal

pub returns-in-false-false-false-true-clause-some : goal.returns-in-false-false-false-true-clause-some
returns-in-false-false-false-true-clause-some c = search rules
