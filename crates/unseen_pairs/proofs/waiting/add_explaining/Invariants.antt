use Rattle.unseen_pairs.specs.Inside.Waiting.{AddedBelow}
use Rattle.unseen_pairs.proofs.waiting.add_explaining.Given as goal

abbrev pub invariant-loop-two : goal.invariant-loop-two
invariant-loop-two l = AddedBelow l.corrects l.p l.reading l.two-items l.two-index l.initial.candidates.items l.candidates.items
