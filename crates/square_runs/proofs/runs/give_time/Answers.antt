use Rattle.std.proofs.Common.{◌≡◌, ◌<◌, ◌==◌, ℕ, Bool, true, false, inl, inr, length, set, slice_index, refl, sym, ap, subst, ◌∙◌, length-set, arith, rules}
use Rattle.std.specs.Prelude.{if◌then◌else◌}
use Rattle.std.specs.Int.{bit_at}
use Rattle.std.proofs.lemmas.Bool.{cases_eq}
use Rattle.std.proofs.lemmas.List.{get_or-set_same, get_or-set_other}
use Rattle.std.proofs.lemmas.Nat.Bits.{bit_at-zero}
use Rattle.square_runs.proofs.Squares.{nor_zero}
use Rattle.square_runs.proofs.runs.give_time.Goals as goal

first_kept : (b : Bool) (at since : ℕ) → since ≡ (if b then since else (if b then at else since))
first_kept true at since = refl
first_kept false at since = refl

pub left-init : goal.left-init
left-init c = record {
  len = search rules;
  inside = λ k low set. set;
  there = λ k low. first_kept (bit_at c.args.squares k == 1) c.args.at (slice_index c.args.since.now k);
}

pub left-preserved : goal.left-preserved
left-preserved c =
    let s : ℕ = c.first_square-square.result in
    let rest : ℕ = c.without-left.result in
    let l = c.left.since in
    let out = c.without-left.ensures in
    let before = c.left.invariant in
    let low : s < 64 = c.first_square-square.ensures.range in
    let within : s < length l = omega (arith, before.len, low) in
    let squares : bit_at c.args.squares s ≡ 1 = before.inside s low c.first_square-square.ensures.set in
    record {
      len = length-set l s c.args.at ∙ before.len;
      inside = λ k low here. before.inside k low (sym (out.others k low (λ e. nor_zero (let P : ℕ → Type 0 = λ n. bit_at rest n ≡ 0 in subst P (sym e) out.cleared) here)) ∙ here);
      there = λ k low. elim (cases_eq k s) [
        | inl e ↦
            (let P : ℕ → Type 0 = λ n. slice_index (set l s c.args.at) n
            ≡ (if bit_at rest n == 1 then slice_index c.args.since.now n else (if bit_at c.args.squares n == 1 then c.args.at else slice_index c.args.since.now n)) in
            subst P (sym e) (
            get_or-set_same l s c.args.at 0 within
            ∙ sym (ap (λ n. if n == 1 then slice_index c.args.since.now s else (if bit_at c.args.squares s == 1 then c.args.at else slice_index c.args.since.now s)) out.cleared
            ∙ ap (λ n. if n == 1 then c.args.at else slice_index c.args.since.now s) squares)
            ))
        | inr ne ↦
            (get_or-set_other l s k c.args.at 0 ne
            ∙ before.there k low
            ∙ sym (ap (λ n. if n == 1 then slice_index c.args.since.now k else (if bit_at c.args.squares k == 1 then c.args.at else slice_index c.args.since.now k)) (out.others k low ne)))
      ];
    }

pub returns : goal.returns
returns c s low =
    let none : c.left.left ≡ 0 = omega (arith, c.left-test.false) in
    c.left.invariant.there s low
    ∙ ap (λ n. if n == 1 then slice_index c.args.since.now s else (if bit_at c.args.squares s == 1 then c.args.at else slice_index c.args.since.now s))
    (ap (λ n. bit_at n s) none ∙ bit_at-zero s)
