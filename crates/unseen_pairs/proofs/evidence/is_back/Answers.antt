use Rattle.std.proofs.Common.{◌≡◌, inl, inr, refl, sym, ap, subst, arith, ◌∙◌}
use Rattle.std.specs.Int.{bit_at}
use Rattle.std.proofs.lemmas.Bool.{cases_eq}
use Rattle.std.proofs.lemmas.Nat.Bits.{bit_at-zero}
use Rattle.settle_core.proofs.Masking.{zero_one}
use Rattle.unseen_pairs.specs.Inside.Waiting.{IsBackOn}
use Rattle.unseen_pairs.proofs.Times.{back_on, no_back}
use Rattle.unseen_pairs.proofs.evidence.is_back.Goals as goal

pub squares-init : goal.squares-init
squares-init c = λ s low back.
    let d = c.diff_mask-rest.ensures s low in
    d.1 (λ same. back.new (sym same))

pub squares-preserved : goal.squares-preserved
squares-preserved c = λ s low back.
    elim (cases_eq s c.first_square-square.result) [
      | inl e ↦
          let here = c.is_back_on.ensures in
          absurd (let on = here.1 (subst (λ n. IsBackOn c.args.before.now c.args.left.now c.args.seen.now n) e back) in let off = c.if-is_back_on.false in let n : ⊥ = cc in n)
      | inr ne ↦ c.without-rest.ensures.others s low ne ∙ c.squares.invariant s low back
    ]

pub returns : goal.returns
returns c =
    let none : c.squares.rest ≡ 0 = let over = c.squares-test.false in omega arith in (
      λ h. absurd (let n : ⊥ = cc in n),
      λ h.
          absurd (no_back c.args.before.now c.args.left.now c.args.seen.now c.told-seen
          (λ s low back. zero_one (ap (λ x. bit_at x s) none ∙ bit_at-zero s) (c.squares.invariant s low back)) h),
    )

pub returns-then-is_back_on : goal.returns-then-is_back_on
returns-then-is_back_on c =
    let s = c.is_back_on.ensures in (
      λ h. back_on c.args.before.now c.args.left.now c.args.seen.now c.first_square-square.result (s.0 c.if-is_back_on.true),
      λ h. refl,
    )
