use Rattle.std.proofs.Common.{◌≡◌, ◌<◌, ℕ, false, get_or}
use Rattle.std.specs.Int.{bit_at}
use Rattle.settle_core.specs.Inside.Reading.{leaves}
use Rattle.settle_core.proofs.candidate.leaving.Given as goal

abbrev pub invariant-loop-rest : goal.invariant-loop-rest
invariant-loop-rest l = (k : ℕ) → k < 64 → bit_at l.rest k ≡ 0 → leaves l.code (get_or l.before k 0) (get_or l.after k 0) ≡ false

abbrev pub decreases-loop-rest : goal.decreases-loop-rest
decreases-loop-rest l = l.rest
