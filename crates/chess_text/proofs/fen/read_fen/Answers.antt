use Rattle.std.proofs.Common.{sym, subst}
use Rattle.chess_rules.specs.declared.parts.Parts.{Parts}
use Rattle.chess_text.specs.Fen.{RefusedFirst, TellsPosition}
use Rattle.chess_text.proofs.FenTexts.{refused_by}
use Rattle.chess_text.proofs.FenAnswers.{ok_is, err_is}
use Rattle.chess_text.proofs.fen.read_fen.Goals as goal

pub returns-in-Err-clause-position : goal.returns-in-Err-clause-position
returns-in-Err-clause-position c = err_is c.args.text.now c.in-Err.error c.in-Err.ensures.refusal

pub returns-in-Ok-new-clause-position : goal.returns-in-Ok-new-clause-position
returns-in-Ok-new-clause-position c =
    let T : Parts → Type 0 = λ p. TellsPosition c.args.text.now p in
    ok_is c.args.text.now c.in-Ok-new.position c.in-Ok-new.ensures.valid (subst T (sym c.in-Ok-new.ensures.ok) c.in-Ok.ensures.parts.tells)

pub returns-in-Err-new-clause-refusal : goal.returns-in-Err-new-clause-refusal
returns-in-Err-new-clause-refusal c =
    subst (RefusedFirst c.args.text.now) (sym c.refusal_of.ensures)
    (refused_by c.args.text.now c.in-Ok.parts c.in-Ok.ensures.parts c.in-Err-new.invalid c.in-Err-new.ensures.err)

pub returns-in-Err-new-clause-position : goal.returns-in-Err-new-clause-position
returns-in-Err-new-clause-position c =
    err_is c.args.text.now c.refusal_of.result
    (subst (RefusedFirst c.args.text.now) (sym c.refusal_of.ensures)
    (refused_by c.args.text.now c.in-Ok.parts c.in-Ok.ensures.parts c.in-Err-new.invalid c.in-Err-new.ensures.err))
