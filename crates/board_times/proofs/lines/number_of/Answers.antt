use Rattle.std.proofs.Common.{◌≡◌, ℕ, true, false, Result, Ok, Err, is_ok, decimal, sym, ap, ◌∙◌, subst}
use Rattle.std.specs.Str.{IsAscii}
use Rattle.std.proofs.lemmas.Fmt.{IsAscii-decimal, parse-decimal}
use Rattle.std.proofs.lemmas.Slice.Eq.{bytes_eq-Decides}
use Rattle.std.proofs.lemmas.Str.{IsUtf8-from_ascii}
use Rattle.board_times.proofs.lines.number_of.Goals as goal

ok_or : {E : Type 0} → ℕ → Result ℕ E → ℕ
ok_or other (Ok n) = n
ok_or other (Err e) = other

pub returns-in_default-clause-none : goal.returns-in_default-clause-none
returns-in_default-clause-none c n fits e =
    c.in_default.ensures.cases.0 (IsUtf8-from_ascii c.args.text.now (subst IsAscii (sym e) (IsAscii-decimal n fits)))

pub returns-in_default-parse-clause-none : goal.returns-in_default-parse-clause-none
returns-in_default-parse-clause-none c n fits e =
    let parsed = parse-decimal 64 n c.in-Ok.digits.now c.parse.result fits fits (c.in-Ok.ensures.cases.0 ∙ e) c.parse.ensures.value.0 in
    let never : false ≡ true = ap is_ok (sym c.in_default-parse.is ∙ parsed) in cc

pub returns-else-are_same-clause-none : goal.returns-else-are_same-clause-none
unfolding ok_or
returns-else-are_same-clause-none c n fits e =
    let parsed = parse-decimal 64 n c.in-Ok.digits.now c.parse.result fits fits (c.in-Ok.ensures.cases.0 ∙ e) c.parse.ensures.value.0 in
    let same : c.in-Ok-parse.n ≡ n = ap (ok_or 0) (sym c.in-Ok-parse.is ∙ parsed) in
    let text = c.as_bytes.ensures.value ∙ c.format.ensures.text ∙ ap decimal same ∙ sym e in
    let never : false ≡ true = sym c.if-are_same.false ∙ c.are_same.ensures ∙ (bytes_eq-Decides _ _).1 text in cc
