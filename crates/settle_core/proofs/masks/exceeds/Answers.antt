use Rattle.std.proofs.Common.{◌<◌, bit_and, w64, arith}
use Rattle.std.specs.Int.{bit_not}
use Rattle.std.proofs.lemmas.Bool.Decides.{nat_tests}
use Rattle.settle_core.proofs.Gone.{first_more, has_one_more}
use Rattle.settle_core.proofs.masks.exceeds.Goals as goal

pub returns : goal.returns
returns c = (
  λ t. first_more c.args.a c.args.b c.ranges.a.fits c.ranges.b.fits (let some : 0 < bit_and c.args.a (bit_not w64 c.args.b) = grind (arith, nat_tests) in some),
  λ h. (let some : 0 < bit_and c.args.a (bit_not w64 c.args.b) = has_one_more c.args.a c.args.b h.0 c.ranges.b.fits h.1 h.2 h.3 in grind (arith, nat_tests)),
)
