use Rattle.std.proofs.Common.{◌≡◌, drop}
use Rattle.chess_game.specs.TagNames.{all_tags}
use Rattle.pgn_book.specs.Inside.Parse.{behind_lines}
use Rattle.pgn_book.proofs.sections.behind_tags.Given as goal

abbrev pub invariant-loop-tag : goal.invariant-loop-tag
invariant-loop-tag l = behind_lines (drop l.tag-index all_tags) l.rest ≡ behind_lines all_tags l.text
