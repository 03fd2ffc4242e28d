use Rattle.std.proofs.Common.{List, sym, subst}
use Rattle.chess_rules.specs.declared.chess_move.Move.{Move}
use Rattle.settle_core.specs.Settling.{Line}
use Rattle.typed_lines.specs.Lines.{ReadsLine}
use Rattle.typed_lines.specs.Words.{typed_words}
use Rattle.typed_lines.specs.declared.reading.Typed.{Typed}
use Rattle.typed_lines.specs.declared.reading.Typed.TheVariants as typed
use Rattle.typed_lines.proofs.LineLemmas.{named_line}
use Rattle.adding.proofs.adding.trial_of.Goals as goal

pub trial_of_moves-requires : goal.trial_of_moves-requires
trial_of_moves-requires c =
    let text = c.requires.0 in
    let R : Typed → Type 0 = λ said. ReadsLine c.args.p.now text said in
    let P : List Move → Type 0 = λ moves. Line c.args.p.now moves in
    let reads : ReadsLine c.args.p.now text (typed.Moves c.in-Moves.moves) = subst R c.in-Moves.is c.requires.1 in
    subst P (sym c.as_slice.ensures.value) (named_line c.args.p.now (typed_words text) c.in-Moves.moves.items reads.1)
