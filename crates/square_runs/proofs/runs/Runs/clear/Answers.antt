use Rattle.std.proofs.Common.{◌≡◌, ◌==◌, ℕ, Some, None, ap}
use Rattle.std.specs.Prelude.{if◌then◌else◌}
use Rattle.std.specs.Int.{bit_at}
use Rattle.std.proofs.lemmas.Nat.Bits.{bit_at-zero}
use Rattle.square_runs.proofs.runs.Runs.clear.Goals as goal

none_of : (s time : ℕ) → (if bit_at 0 s == 1 then Some time else None) ≡ None
none_of s time = ap (λ n. if n == 1 then Some time else None) (bit_at-zero s)

pub returns : goal.returns
returns c s low = none_of s _
