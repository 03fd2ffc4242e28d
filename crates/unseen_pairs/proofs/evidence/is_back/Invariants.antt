use Rattle.std.proofs.Common.{◌≡◌, ◌<◌, ℕ}
use Rattle.std.specs.Int.{bit_at}
use Rattle.unseen_pairs.specs.Inside.Waiting.{IsBackOn}
use Rattle.unseen_pairs.proofs.evidence.is_back.Given as goal

abbrev pub invariant-squares : goal.invariant-squares
invariant-squares l = (s : ℕ) → s < 64 → IsBackOn l.before l.left l.seen s → bit_at l.rest s ≡ 1

abbrev pub decreases-squares : goal.decreases-squares
decreases-squares l = l.rest
