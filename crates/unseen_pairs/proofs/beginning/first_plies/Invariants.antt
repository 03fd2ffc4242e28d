use Rattle.std.proofs.Common.{◌≡◌, []}
use Rattle.std.specs.Int.{bit_at}
use Rattle.unseen_pairs.specs.Inside.Beginning.{AddsMoves, Begins}
use Rattle.unseen_pairs.proofs.beginning.first_plies.Given as goal

abbrev pub invariant-squares : goal.invariant-squares
invariant-squares l = AddsMoves l.p (λ m. Begins l.p l.seen m × (bit_at l.mask m.from ≡ 1) × (bit_at l.rest m.from ≡ 0)) [] l.moves.items

abbrev pub decreases-squares : goal.decreases-squares
decreases-squares l = l.rest
