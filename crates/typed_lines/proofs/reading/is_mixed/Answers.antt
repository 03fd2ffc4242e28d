use Rattle.std.proofs.Common.{◌∙◌, [], List, ℕ, Bor, sym}
use Rattle.std.proofs.lemmas.List.Folds.{list_any_at}
use Rattle.typed_lines.proofs.LineLemmas.{any_behind}
use Rattle.typed_lines.specs.Lines.{stands_alone}
use Rattle.typed_lines.proofs.reading.is_mixed.Goals as goal

pub returns-then-branch : goal.returns-then-branch
returns-then-branch c =
    let words = c.args.words.now in
    let i = c.loop-word.word-index in
    sym (any_behind stands_alone words
    ∙ list_any_at (λ (word : Bor (List ℕ)). stands_alone word.now) words i (record { ref_ptr = (0, 0); now = [] }) c.loop-word-test.true (sym c.in_ok-stands_alone.ensures ∙ c.if-branch.true))
