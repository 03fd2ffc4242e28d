use Rattle.std.proofs.Common.{◌≡◌, ◌<◌, ◌↔◌, ℕ, true, get_or}
use Rattle.std.specs.Int.{bit_at}
use Rattle.settle_core.specs.Candidate.{is_owned_code}
use Rattle.settle_core.proofs.candidate.owned_in.Given as goal

abbrev pub invariant-loop-square : goal.invariant-loop-square
invariant-loop-square l = (s : ℕ) → s < 64 → (bit_at l.owned s ≡ 1) ↔ ((s < l.square) × (is_owned_code l.side (get_or l.picture s 0) ≡ true))
