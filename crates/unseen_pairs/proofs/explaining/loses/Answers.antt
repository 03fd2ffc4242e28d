use Rattle.std.proofs.Common.{arith}
use Rattle.unseen_pairs.proofs.explaining.loses.Goals as goal

pub returns : goal.returns
returns c = (
  λ h. absurd (let n : ⊥ = cc in n),
  λ h. absurd (c.loop-square.invariant h.0 (omega arith) h.1),
)
