use Rattle.std.proofs.Common.{◌≡◌, ◌∙◌, sym, ap, arith, length}
use Rattle.std.proofs.lemmas.Bool.{false≢true}
use Rattle.chess_text.specs.Fen.{rights_text}
use Rattle.chess_text.specs.Inside.FieldReading.{rights_at}
use Rattle.chess_text.proofs.FenTexts.{rights_back}
use Rattle.chess_text.proofs.FenPlain.{castling_plain}
use Rattle.chess_text.proofs.fields.castling_of.Goals as goal

pub returns-then-field-gt4-clause-none : goal.returns-then-field-gt4-clause-none
returns-then-field-gt4-clause-none c = λ r e.
    let short = (castling_plain r).short in
    omega (arith, short, ap length e)

pub returns-else-is_castling_text-clause-none : goal.returns-else-is_castling_text-clause-none
returns-else-is_castling_text-clause-none c = λ r e.
    let same : c.rights_at-rights.result ≡ r = c.rights_at-rights.ensures ∙ ap rights_at e ∙ rights_back r in
    false≢true (sym c.if-is_castling_text.false ∙ c.is_castling_text.ensures.1 (e ∙ ap rights_text (sym same)))
