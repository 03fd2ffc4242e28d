use Rattle.std.proofs.Common.{◌≡◌, ◌<◌, ℕ, Some}
use Rattle.std.specs.Prelude.{slice_index_or}
use Rattle.unseen_pairs.specs.declared.pair.TwoPlies.{TwoPlies}
use Rattle.unseen_pairs.proofs.explained.is_begun_otherwise.Given as goal

abbrev pub invariant-pairs : goal.invariant-pairs
invariant-pairs l = (x : TwoPlies) (k : ℕ) → k < l.two-index → slice_index_or l.two-items k x ≡ x → l.last ≡ Some x.first
