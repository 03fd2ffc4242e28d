use Rattle.std.proofs.Common.{◌∙◌, ◌+◌, ℕ, drop, sym, ap, arith}
use Rattle.going_back.specs.Nearest.{half_asked}
use Rattle.going_back.proofs.NearLemmas.{half_next}
use Rattle.going_back.proofs.nearest.asked_half.Goals as goal

pub loop-byte-preserved : goal.loop-byte-preserved
loop-byte-preserved c =
    let l = c.loop-byte in
    let count = l.invariant.count in
    let digit = sym c.is_digit.ensures ∙ c.if-not-is_digit.false in
    record {
      count = omega (arith, count);
      within = c.with_digit-number.ensures.within;
      left = ap (λ (n : ℕ). half_asked n (drop (l.byte-index + 1) c.args.text.now)) c.with_digit-number.ensures.value
          ∙ sym (half_next l.number c.args.text.now l.byte-index (omega arith) digit) ∙ l.invariant.left;
    }
