use Rattle.std.proofs.Common.{ap, ◌∙◌}
use Rattle.std.specs.Prelude.{codes}
use Rattle.chess_game.specs.TagNames.{all_tags}
use Rattle.chess_game.specs.Values.{TagValues}
use Rattle.pgn_book.specs.Movetext.{result_text}
use Rattle.pgn_book.specs.Pgn.{roster, tag_line, tag_lines}
use Rattle.pgn_book.proofs.Standing.{Adds-then, Adds-same}
use Rattle.pgn_book.proofs.writing.put_roster.Goals as goal

pub returns-clause-adds : goal.returns-clause-adds
unfolding roster
returns-clause-adds g c =
    let tags = tag_lines c.args.game.now.tags all_tags in
    let result = tag_line (codes "Result") (result_text c.args.game.now.result) in
    Adds-then _ _ _ _ _ _ c.args.at.now c.put_tags.new.at c.put_tag.new.at tags result
    (Adds-same _ _ _ _ c.args.at.now c.put_tags.new.at _ tags (ap (λ (values : TagValues). tag_lines values all_tags) c.tags.ensures.tags) c.put_tags.ensures.adds)
    (Adds-same _ _ _ _ c.put_tags.new.at c.put_tag.new.at _ result (ap (tag_line (codes "Result")) (c.result_str.ensures.text ∙ ap result_text c.result.ensures)) c.put_tag.ensures.adds)
