use Rattle.std.proofs.Common.{◌≡◌, ◌∙◌, List, ℕ, Bor, None, ap, false, map, rules, subst, sym}
use Rattle.std.specs.List.{list_any}
use Rattle.typed_lines.specs.Lines.{HasMoveWords, ReadsWords, stands_alone}
use Rattle.typed_lines.specs.Numbers.{line_words}
use Rattle.typed_lines.specs.Results.{result_of}
use Rattle.typed_lines.specs.Words.{typed_words}
use Rattle.typed_lines.proofs.LineLemmas.{some_words}
use Rattle.typed_lines.proofs.reading.read_line.Goals as goal

pub returns : goal.returns
returns c =
    let text = c.args.text.now in
    let now : Bor (List ℕ) → List ℕ = λ w. w.now in
    let words : map now c.in_ok-words.words.items ≡ typed_words text = c.in_ok-words.ensures in
    let at : map now c.as_slice-3.result.now ≡ typed_words text = ap (map now) c.as_slice-3.ensures.value ∙ words in
    let mixed : list_any stands_alone (typed_words text) ≡ false = ap (list_any stands_alone) (sym (ap (map now) c.as_slice-2.ensures.value ∙ words)) ∙ sym c.in_ok-is_mixed.ensures ∙ c.if-branch.false in
    let none : result_of text ≡ None = sym c.in_ok-outcome.ensures ∙ c.in_default.is in
    let has : HasMoveWords text = record { no_result = none; some = some_words c.in_ok-words.words.items (typed_words text) words (search rules); no_other = mixed } in
    let all : map now c.as_slice-4.result.now ≡ line_words text = ap (map now) c.as_slice-4.ensures.value ∙ c.in_ok-all.ensures in
    let R : List (List ℕ) → Type 0 = λ ws. ReadsWords c.args.p.now ws c.in_ok-said.said in
    c.numbered.ensures text all has (subst R at c.in_ok-said.ensures)
