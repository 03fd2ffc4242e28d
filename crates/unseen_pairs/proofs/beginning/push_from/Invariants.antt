use Rattle.std.proofs.Common.{◌≡◌, ◌<◌, None}
use Rattle.std.specs.Int.{bit_at}
use Rattle.unseen_pairs.specs.Inside.Beginning.{AddsMoves}
use Rattle.unseen_pairs.proofs.beginning.push_from.Given as goal

abbrev pub invariant-squares : goal.invariant-squares
invariant-squares l =
    AddsMoves l.p (λ m. (m.promotion ≡ None) × (m.from ≡ l.from) × (m.to < 64) × (bit_at l.targets m.to ≡ 1) × (bit_at l.rest m.to ≡ 0)) l.fn.moves.items l.moves.items

abbrev pub decreases-squares : goal.decreases-squares
decreases-squares l = l.rest
