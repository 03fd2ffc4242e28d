use Rattle.std.proofs.Common.{◌≡◌, ◌<◌, ◌==◌, ℕ, length, slice_index}
use Rattle.std.specs.Prelude.{if◌then◌else◌}
use Rattle.std.specs.Int.{bit_at}
use Rattle.square_runs.proofs.runs.give_time.Given as goal

abbrev pub invariant-left : goal.invariant-left
invariant-left l = record {
  len : length l.since ≡ 64;
  inside : (k : ℕ) → k < 64 → bit_at l.left k ≡ 1 → bit_at l.squares k ≡ 1;
  there : (k : ℕ) → k < 64 → slice_index l.since k ≡ (if bit_at l.left k == 1 then slice_index l.initial.since k else (if bit_at l.squares k == 1 then l.at else slice_index l.initial.since k));
}

abbrev pub decreases-left : goal.decreases-left
decreases-left l = l.left
