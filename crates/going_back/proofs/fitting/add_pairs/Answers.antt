use Rattle.std.proofs.Common.{◌≡◌, ◌≤◌, ◌↔◌, Contains, List, ℕ, arith, sym, subst}
use Rattle.unseen_pairs.specs.declared.pair.TwoPlies.{TwoPlies}
use Rattle.unseen_pairs.specs.Pairs.{IsAfterTwo}
use Rattle.going_back.proofs.FitListing.{all_below, more_below}
use Rattle.going_back.proofs.fitting.add_pairs.Goals as goal

pub pairs-preserved : goal.pairs-preserved
pairs-preserved c =
    more_below c.args.gone c.args.went.now c.as_slice-two-items.result.now c.pairs.two-index c.two-item.result
    c.args.fits.now.items c.pairs.fits.items c.add_two.new.fits.items c.pairs-test.true c.two-item.is c.pairs.invariant c.in_ok-add_two.ensures

same_end : (i n : ℕ) → i ≤ n → n ≤ i → i ≡ n
same_end i n a b = omega arith

pub returns : goal.returns
returns c =
    let L : List TwoPlies → Type 0 = λ xs. (x : TwoPlies) → Contains xs x ↔ IsAfterTwo c.args.p.now c.args.seen.now x.first x.second in
    all_below c.args.p.now c.args.seen.now c.args.gone c.args.went.now c.as_slice-two-items.result.now c.pairs.two-index
    c.args.fits.now.items c.pairs.fits.items (subst L (sym c.as_slice-two-items.ensures.value) c.in_ok-pairs.ensures)
    (same_end _ _ c.pairs.auto.two-index-end c.pairs-test.false) c.pairs.invariant
