use Rattle.std.proofs.Common.{◌<◌, ℕ}
use Rattle.settle_core.specs.Lost.{LosesAt}
use Rattle.unseen_pairs.proofs.explaining.loses.Given as goal

abbrev pub invariant-loop-square : goal.invariant-loop-square
invariant-loop-square l = (s : ℕ) → s < l.square → ¬ LosesAt l.p l.seen l.side s
