use Rattle.unseen_pairs.specs.Inside.Explaining.{ListsPairs}
use Rattle.unseen_pairs.proofs.explaining.pairs_that_explain.Given as goal

abbrev pub invariant-loop-first : goal.invariant-loop-first
invariant-loop-first l = ListsPairs l.p l.seen l.first-items l.first-index l.pairs.items
