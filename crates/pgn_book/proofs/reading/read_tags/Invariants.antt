use Rattle.std.proofs.Common.{drop}
use Rattle.chess_game.specs.TagNames.{all_tags}
use Rattle.chess_game.specs.Values.{TagValues, AreValues}
use Rattle.pgn_book.specs.Inside.Parse.{HaveValues}
use Rattle.pgn_book.proofs.TagsRead.{Reads}
use Rattle.pgn_book.proofs.reading.read_tags.Given as goal

abbrev pub invariant-loop-tag : goal.invariant-loop-tag
invariant-loop-tag l = (values : TagValues) → AreValues values → HaveValues all_tags values l.text → Reads values (drop l.tag-index all_tags) l.rest l.tags
