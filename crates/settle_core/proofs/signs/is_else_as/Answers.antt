use borrow.Author.Count.{below_more}
use Rattle.settle_core.proofs.signs.is_else_as.Goals.{else-not-in_centre-via-then-not-in_centre+else-not-is_as, else-not-in_centre-via-else-not-in_centre}
use Rattle.std.proofs.Common.{ℕ, ◌≡◌, List, get_or, true, false, refl, subst, sym, arith}
use Rattle.settle_core.specs.Sign.{InCentre}
use Rattle.settle_core.specs.Inside.Signs.{IsAs}
use Rattle.settle_core.proofs.Signing.{else_as_from, as_from_else}
use Rattle.settle_core.proofs.signs.is_else_as.Goals as goal

pub returns-then-not-is_as : goal.returns-then-not-is_as
returns-then-not-is_as c =
    let out : ¬ InCentre c.loop-square.square = λ h. let e = c.in_centre.ensures in absurd (let q : c.in_centre.result ≡ true = e.1 h in let q' : c.in_centre.result ≡ false = c.if-not-in_centre.true in let never : ⊥ = cc in never) in (
      λ e. absurd (let e' : false ≡ true = e in let never : ⊥ = cc in never),
      λ h.
          let P : List ℕ → Type 0 = λ xs. IsAs (get_or xs c.loop-square.square 0) (get_or c.args.picture.now c.loop-square.square 0) in
          let a : P c.args.compared.now.picture = subst P (sym (c.requires).picture) (as_from_else c.args.compared.now.position c.args.picture.now c.parts.ensures.valid h c.loop-square.square c.loop-square-test.true out) in
          let e = c.is_as.ensures in
          let q : c.is_as.result ≡ true = e.1 a in
          let q' : c.is_as.result ≡ false = c.if-not-is_as.true in
          absurd (let never : ⊥ = cc in never),
    )

pub returns : goal.returns
returns c = (
  λ _.
      else_as_from c.args.compared.now.position c.args.picture.now c.parts.ensures.valid c.told-picture
      (λ s low out.
      let P : List ℕ → Type 0 = λ xs. IsAs (get_or xs s 0) (get_or c.args.picture.now s 0) in
      subst P (c.requires).picture (c.loop-square.invariant s (omega arith) out)),
  λ _. refl,
)

pub loop-square-preserved : goal.loop-square-preserved
loop-square-preserved c =
    let P : ℕ → Type 0 = λ s. ¬ InCentre s → IsAs (get_or c.args.compared.now.picture s 0) (get_or c.args.picture.now s 0) in
    below_more P c.loop-square.square c.loop-square.invariant
    (λ out.
    elim c.else-not-in_centre.branch [
      | else-not-in_centre-via-then-not-in_centre+else-not-is_as w ↦ let e = w.is_as.ensures in e.0 w.if-not-is_as.false
      | else-not-in_centre-via-else-not-in_centre w ↦ let e = c.in_centre.ensures in absurd (out (e.0 w.if-not-in_centre.false))
    ])
