use Rattle.std.proofs.Common.{◌++◌, ap, sym, refl, ◌∙◌}
use Rattle.std.specs.Prelude.{codes}
use Rattle.std.proofs.lemmas.Bool.{false≢true}
use Rattle.chess_text.specs.Fen.{fen}
use Rattle.pgn_book.specs.Pgn.{elsewhere, tag_line}
use Rattle.pgn_book.proofs.Standing.{Adds-same, Adds-then}
use Rattle.pgn_book.proofs.writing.put_set_up.Goals as goal

pub returns-clause-adds : goal.returns-clause-adds
returns-clause-adds g c =
    let first = tag_line (codes "FEN") (fen c.args.start.now) in
    let second = tag_line (codes "SetUp") (codes "1") in
    let fen_line = Adds-same _ _ _ _ c.args.at.now c.put_tag.new.at _ first (ap (tag_line (codes "FEN")) (c.as_str.ensures.value ∙ c.write_fen-fen.ensures)) c.put_tag.ensures.adds in (
      first ++ second,
      elsewhere (λ e. false≢true (sym c.if-is_initial.false ∙ c.is_initial.ensures.1 e)) refl,
      Adds-then _ _ _ _ _ _ c.args.at.now c.put_tag.new.at c.put_tag-2.new.at first second fen_line c.put_tag-2.ensures.adds,
    )
