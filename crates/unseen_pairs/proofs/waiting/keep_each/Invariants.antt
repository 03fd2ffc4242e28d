use Rattle.unseen_pairs.specs.Inside.Waiting.{KeptFrom}
use Rattle.unseen_pairs.proofs.waiting.keep_each.Given as goal

abbrev pub invariant-places : goal.invariant-places
invariant-places l = KeptFrom l.now l.picture l.fn.candidates.items l.rest l.candidates.items

abbrev pub decreases-places : goal.decreases-places
decreases-places l = l.rest
