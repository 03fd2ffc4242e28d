use Rattle.std.proofs.Common.{◌<◌, ◌∙◌, length, sym, arith}
use Rattle.std.proofs.lemmas.Bool.{both_ways}
use Rattle.going_back.proofs.fitting.only_of.Goals as goal

pub returns-then-not-is_same_fit-clause-none : goal.returns-then-not-is_same_fit-clause-none
returns-then-not-is_same_fit-clause-none c = λ fit h.
    let below = c.fits-test.true in
    let first : 0 < length c.args.fits.now = omega (arith, below) in
    let one = h.alone c.fit-item.result (c.fits.fit-index, below, sym c.fit-item.is) in
    let other = h.alone c.index-fits-0.result (0, first, sym c.index-fits-0.is) in
    both_ways _ c.if-not-is_same_fit.true (c.is_same_fit.ensures.1 (one ∙ sym other))
