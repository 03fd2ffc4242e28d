use Rattle.unseen_pairs.specs.Inside.Waiting.{FoundBelow}
use Rattle.unseen_pairs.proofs.confirming.only_one_of.Given as goal

abbrev pub invariant-loop-candidate : goal.invariant-loop-candidate
invariant-loop-candidate l = FoundBelow l.now l.candidates l.picture l.candidate-index l.found
