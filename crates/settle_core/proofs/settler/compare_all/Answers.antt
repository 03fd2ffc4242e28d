use Rattle.std.proofs.Common.{Option, subst}
use Rattle.settle_core.specs.declared.compared.Compared.{Compared}
use Rattle.settle_core.specs.Inside.Kept.{IsComparedIn}
use Rattle.settle_core.proofs.settler.compare_all.Goals as goal

pub returns-in-Some-clause-compared : goal.returns-in-Some-clause-compared
returns-in-Some-clause-compared c old h =
    let P : Option Compared → Type 0 = λ x. IsComparedIn x old in
    c.compare.ensures.compared old (subst P c.in-Some.is h)
