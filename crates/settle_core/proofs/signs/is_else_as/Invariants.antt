use Rattle.std.proofs.Common.{◌<◌, ℕ, get_or}
use Rattle.settle_core.specs.Sign.{InCentre}
use Rattle.settle_core.specs.Inside.Signs.{IsAs}
use Rattle.settle_core.proofs.signs.is_else_as.Given as goal

abbrev pub invariant-loop-square : goal.invariant-loop-square
invariant-loop-square l = (s : ℕ) → s < l.square → ¬ InCentre s → IsAs (get_or l.compared.picture s 0) (get_or l.picture s 0)
