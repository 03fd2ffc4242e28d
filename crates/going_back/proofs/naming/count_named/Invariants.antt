use Rattle.std.proofs.Common.{◌≡◌, ◌<◌, ◌≤◌, ◌-◌, ℕ}
use Rattle.std.specs.Prelude.{decimal}
use Rattle.going_back.proofs.naming.count_named.Given as goal

abbrev pub invariant-counts : goal.invariant-counts
invariant-counts l = record {
  within : l.count ≤ l.most;
  none : (k : ℕ) → k < l.count → l.text ≡ decimal k → ⊥;
}

abbrev pub decreases-counts : goal.decreases-counts
decreases-counts l = l.most - l.count
