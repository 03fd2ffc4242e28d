use Rattle.std.proofs.Common.{◌≡◌, drop, false}
use Rattle.pgn_book.specs.Inside.Parse.{after_value}
use Rattle.pgn_book.proofs.sections.behind_value.Given as goal

abbrev pub invariant-loop-i : goal.invariant-loop-i
invariant-loop-i l = after_value false l.bytes ≡ after_value l.quoted (drop l.i l.bytes)
