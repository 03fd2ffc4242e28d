use Rattle.std.proofs.Common.{◌≡◌, ◌<◌, ◌⊎◌, ℕ, List, [], Contains, inl, inr, subst, arith}
use Rattle.settle_core.specs.Folding.{moves_of}
use Rattle.going_back.specs.declared.fit.Fit.{Fit}
use Rattle.going_back.specs.Fitting.{Fits}
use Rattle.going_back.proofs.FitLemmas.{all_fits}
use Rattle.going_back.proofs.FitListing.{adds_both}
use Rattle.going_back.proofs.fitting.fits_of.Goals as goal

none_in : (x : Fit) → Contains [] x → ⊥
none_in x h = let low : h.0 < 0 = h.1 in omega arith

pub returns : goal.returns
returns c =
    let start = c.args.start.now in
    let moves = moves_of c.args.plies.now in
    let seen = c.args.seen.now in
    let A : ℕ → Fit → Type 0 = λ g x. (x.gone ≡ g) × Fits start moves seen x in
    let B : Fit → Type 0 = λ x. A 1 x ⊎ A 2 x in
    let all = adds_both (A 0) B (Fits start moves seen) c.new-found.result.items c.add_going.new.fits.items c.add_going-3.new.fits.items
    c.in_ok-add_going.ensures
    (adds_both (A 1) (A 2) B c.add_going.new.fits.items c.add_going-2.new.fits.items c.add_going-3.new.fits.items
    c.in_ok-add_going-2.ensures c.in_ok-add_going-3.ensures (λ x. (λ h. h, λ h. h)))
    (λ x. (
      λ f. all_fits start moves seen x f,
      λ h. elim h [ inl a ↦ a.1 | inr o ↦ elim o [ inl b ↦ b.1 | inr d ↦ d.1 ] ],
    )) in
    λ x.
    let e = all x in
    let In : List Fit → Type 0 = λ xs. Contains xs x in (
      λ k. elim (e.0 k) [ inl o ↦ absurd (none_in x (subst In c.new-found.ensures.items o)) | inr f ↦ f ],
      λ f. e.1 (inr f),
    )
