use Rattle.std.proofs.Common.{◌∙◌, sym, subst}
use Rattle.std.proofs.lemmas.Bool.{false≢true}
use Rattle.chess_game.specs.Games.{Content}
use Rattle.pgn_book.specs.Pgn.{Pgn}
use Rattle.pgn_book.proofs.ParseBack.{pgn_parses}
use Rattle.pgn_book.proofs.reading.read_pgn.Goals as goal

pub returns-in-Err-clause-only : goal.returns-in-Err-clause-only
returns-in-Err-clause-only c = λ game h. c.in-Err.ensures game h.is_game (pgn_parses c.texts_are_plain.ensures game c.args.text.now h)

pub returns-in-Ok-true-clause-only : goal.returns-in-Ok-true-clause-only
returns-in-Ok-true-clause-only c = λ game h. c.in-Ok.ensures game h.is_game (pgn_parses c.texts_are_plain.ensures game c.args.text.now h)

pub returns-in-Ok-false-clause-only : goal.returns-in-Ok-false-clause-only
returns-in-Ok-false-clause-only c = λ game h.
    let same = c.in-Ok.ensures game h.is_game (pgn_parses c.texts_are_plain.ensures game c.args.text.now h) in
    let P : Content → Type 0 = λ g. Pgn g c.args.text.now in
    absurd (false≢true (sym c.in-Ok-false.field-0-test ∙ c.in-Ok-false.ensures.ok.1 (subst P (sym same) h)))
