use Rattle.std.proofs.Common.{◌≡◌, ◌≢◌, ◌<◌, ◌==◌, ℕ, Some, None, slice_index, inl, inr, sym, ap, subst, ◌∙◌, arith}
use Rattle.std.specs.Prelude.{if◌then◌else◌}
use Rattle.std.specs.Int.{bit_at}
use Rattle.std.proofs.lemmas.Bool.{cases_eq}
use Rattle.std.proofs.lemmas.Nat.Bits.{bit_at-zero}
use Rattle.square_runs.specs.Keeping.{time_of}
use Rattle.square_runs.specs.Lasting.{has_lasted}
use Rattle.square_runs.proofs.Squares.{nor_zero}
use Rattle.square_runs.proofs.runs.lasting_squares.Goals as goal

pub left-init : goal.left-init
left-init c = record {
  inside = λ k low set. set;
  still = λ k low set. bit_at-zero k;
  there = λ k low none. ap (λ n. n == 1) (bit_at-zero k) ∙ sym (ap (λ n. has_lasted c.args.span c.args.now (if n == 1 then Some (slice_index c.args.since.now k) else None)) none);
}

pub left-preserved : goal.left-preserved
left-preserved c =
    let s : ℕ = c.first_square-square.result in
    let rest : ℕ = c.without-left.result in
    let out = c.without-left.ensures in
    let set = c.first_square-square.ensures.set in
    let before = c.left.invariant in
    let other : (k : ℕ) → k < 64 → bit_at rest k ≡ 1 → k ≢ s = λ k low here e. nor_zero (let P : ℕ → Type 0 = λ n. bit_at rest n ≡ 0 in subst P (sym e) out.cleared) here in
    record {
      inside = λ k low here. before.inside k low (sym (out.others k low (other k low here)) ∙ here);
      still = λ k low here. c.with_if-squares.ensures.others k low (other k low here) ∙ before.still k low (sym (out.others k low (other k low here)) ∙ here);
      there = λ k low none. elim (cases_eq k s) [
        | inl e ↦
            (let P : ℕ → Type 0 = λ n. (bit_at c.with_if-squares.result n == 1) ≡ has_lasted c.args.span c.args.now (time_of c.args.last c.args.since.now n) in
            subst P (sym e) (
            c.with_if-squares.ensures.set
            ∙ c.lasted.ensures
            ∙ sym (ap (λ n. has_lasted c.args.span c.args.now (if n == 1 then Some (slice_index c.args.since.now s) else None)) (before.inside s c.first_square-square.ensures.range set))
            ))
        | inr ne ↦ ap (λ n. n == 1) (c.with_if-squares.ensures.others k low ne) ∙ before.there k low (sym (out.others k low ne) ∙ none)
      ];
    }

pub returns : goal.returns
returns c s low =
    let none : c.left.left ≡ 0 = omega (arith, c.left-test.false) in
    c.left.invariant.there s low (ap (λ n. bit_at n s) none ∙ bit_at-zero s)
