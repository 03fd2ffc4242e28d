use Rattle.std.proofs.Common.{◌≡◌, take}
use Rattle.watched_streams.specs.Watch.{inner_of, has_failed}
use Rattle.pgn_book.specs.Inside.Flow.{Adds}
use Rattle.chess_game.specs.TagNames.{all_tags}
use Rattle.pgn_book.specs.Pgn.{tag_lines}
use Rattle.pgn_book.proofs.writing.put_tags.Given as goal

abbrev pub invariant-loop-tag : goal.invariant-loop-tag
invariant-loop-tag g l = (l.at.column ≡ l.fn.at.column)
    × Adds (g.W.Write.contents (inner_of l.initial.out)) (g.W.Write.contents (inner_of l.out)) (has_failed l.initial.out) (has_failed l.out) l.fn.at l.at (tag_lines l.tags (take l.tag-index all_tags))
