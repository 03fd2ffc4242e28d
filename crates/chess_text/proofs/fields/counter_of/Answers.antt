use Rattle.std.proofs.Common.{◌≡◌, ◌-◌, ◌<◌, ◌∙◌, ℕ, sym, ap, arith, length, get_or, tests}
use Rattle.std.specs.Prelude.{decimal}
use Rattle.std.specs.Str.Parse.{digits_value}
use Rattle.std.proofs.lemmas.Fmt.{length-decimal-le, decimal_is_IsNumeral}
use Rattle.std.proofs.lemmas.Int.Digits.{digits_value_more}
use Rattle.std.proofs.lemmas.List.{take_all}
use Rattle.std.proofs.lemmas.Grind.{pow_more}
use Rattle.std.proofs.lemmas.Bool.{false≢true}
use Rattle.std.specs.Char.{digit_value}
use Rattle.chess_text.proofs.fields.counter_of.Goals as goal

digit_is : (b : ℕ) → 47 < b → b < 58 → digit_value b ≡ b - 48
digit_is b low high = grind (arith, tests)

pub returns-then-digits-gt4-clause-none : goal.returns-then-digits-gt4-clause-none
returns-then-digits-gt4-clause-none c = λ n lt e. omega (arith, length-decimal-le 4 n (omega arith) lt (omega arith), ap length e, c.if-digits-gt4.true)

pub loop-digit-preserved : goal.loop-digit-preserved
loop-digit-preserved c =
    let bs = c.args.digits.now in
    let i = c.loop-digit.digit-index in
    let b = get_or bs i 0 in
    let lt : i < length bs = omega arith in
    let d = c.requires.1 i 0 lt in
    let more = digits_value_more 10 bs i lt in
    let is = digit_is b d.0 d.1 in
    let from = c.from.ensures in
    let pow = pow_more 10 i in
    (omega (arith, more, is, c.loop-digit.invariant.0), omega (arith, c.loop-digit.invariant.1, pow))

pub returns-else-same_bytes-clause-none : goal.returns-else-same_bytes-clause-none
returns-else-same_bytes-clause-none c = λ k lt e.
    let bs = c.args.digits.now in
    let n = c.loop-digit.n in
    let all = take_all c.loop-digit.digit-index bs (omega arith) in
    let same : n ≡ k = c.loop-digit.invariant.0 ∙ ap (digits_value 10) all ∙ ap (digits_value 10) e ∙ (decimal_is_IsNumeral k (omega arith)).1 in
    false≢true (sym c.if-same_bytes.false ∙ c.same_bytes.ensures.1 (c.as_bytes.ensures.value ∙ c.format.ensures.text ∙ ap decimal same ∙ sym e))
