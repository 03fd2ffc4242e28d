use Rattle.std.proofs.Common.{◌<◌, bit_and, arith}
use Rattle.std.proofs.lemmas.Bool.Decides.{nat_tests}
use Rattle.settle_core.proofs.Gone.{first_of, has_some}
use Rattle.settle_core.proofs.masks.meets.Goals as goal

pub returns : goal.returns
returns c = (
  λ t. first_of c.args.a c.args.b c.ranges.a.fits (let some : 0 < bit_and c.args.a c.args.b = grind (arith, nat_tests) in some),
  λ h. (let some : 0 < bit_and c.args.a c.args.b = has_some c.args.a c.args.b h.0 h.2 h.3 in grind (arith, nat_tests)),
)
