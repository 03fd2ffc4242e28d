use Rattle.std.proofs.Common.{◌∙◌, ◌⊎◌, inr, sym, ⊎_elim}
use Rattle.std.proofs.lemmas.Bool.{false≢true}
use Rattle.typed_lines.specs.Spelling.{IsItsSan, IsOfSquares}
use Rattle.typed_lines.proofs.LineLemmas.{if_ok_iff}
use Rattle.typed_lines.proofs.spelling.is_written.Goals as goal

pub returns : goal.returns
returns c =
    let p = c.args.p.now in
    let m = c.args.m.now in
    let word = c.args.word.now in
    if_ok_iff c.is_of_squares.result (IsOfSquares m word) (IsItsSan p m word ⊎ IsOfSquares m word) c.is_of_squares.ensures (λ squares. inr squares)
    (λ written. ⊎_elim (λ san. absurd (false≢true (sym c.if-branch.false ∙ c.in_ok-is_its_san.ensures.1 san))) (λ squares. squares) written)
