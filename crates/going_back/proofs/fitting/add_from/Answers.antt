use Rattle.std.proofs.Common.{◌⊎◌, inl, inr}
use Rattle.going_back.specs.declared.fit.Fit.{Fit}
use Rattle.going_back.specs.Inside.Fitting.{FitsByNone, FitsByOne, FitsByTwo, FitsFrom}
use Rattle.going_back.proofs.FitLemmas.{by_none, by_one, by_two, from_cases}
use Rattle.going_back.proofs.FitListing.{adds_both}
use Rattle.going_back.proofs.fitting.add_from.Goals as goal

pub returns : goal.returns
returns c =
    let p = c.args.p.now in
    let gone = c.args.gone in
    let went = c.args.went.now in
    let seen = c.args.seen.now in
    let Some : Fit → Type 0 = λ x. FitsByOne p gone went seen x ⊎ FitsByTwo p gone went seen x in
    adds_both (FitsByNone p gone seen) Some (FitsFrom p gone went seen) c.args.fits.now.items c.add_none.new.fits.items c.add_pairs.new.fits.items
    c.in_ok-add_none.ensures
    (adds_both (FitsByOne p gone went seen) (FitsByTwo p gone went seen) Some c.add_none.new.fits.items c.add_one.new.fits.items c.add_pairs.new.fits.items
    c.in_ok-add_one.ensures c.in_ok-add_pairs.ensures (λ x. (λ h. h, λ h. h)))
    (λ x. (
      λ h. from_cases p gone went seen x c.parts.ensures.valid h,
      λ h. elim h [
        | inl n ↦ by_none p gone went seen x n
        | inr o ↦ elim o [ inl a ↦ by_one p gone went seen x a | inr b ↦ by_two p gone went seen x b ]
      ],
    ))
