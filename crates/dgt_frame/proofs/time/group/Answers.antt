use Prim.{search}
use Rattle.std.proofs.Common.{rules}
use Rattle.dgt_frame.proofs.time.group.Goals as goal

pub invariant_of-result : goal.invariant_of-result
invariant_of-result c = search rules

pub returns-then-are_digits-2 : goal.returns-then-are_digits-2
returns-then-are_digits-2 c = search rules
