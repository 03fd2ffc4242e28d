use Rattle.std.proofs.Common.{◌≡◌, ◌<◌}
use Rattle.unseen_pairs.specs.Inside.Beginning.{AddsMoves}
use Rattle.unseen_pairs.proofs.beginning.push_all_from.Given as goal

abbrev pub invariant-loop-to : goal.invariant-loop-to
invariant-loop-to l = AddsMoves l.p (λ m. (m.from ≡ l.from) × (m.to < l.to)) l.fn.moves.items l.moves.items
