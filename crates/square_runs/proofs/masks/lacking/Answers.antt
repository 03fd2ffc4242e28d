use Rattle.std.proofs.Common.{◌==◌, refl}
use Rattle.std.specs.Int.{bit_at}
use Rattle.square_runs.proofs.Squares.{lacking}
use Rattle.square_runs.proofs.masks.lacking.Goals as goal

pub returns : goal.returns
returns c s low = lacking c.args.mask c.args.other s c.ranges.other.fits low (bit_at c.args.mask s == 1) refl
