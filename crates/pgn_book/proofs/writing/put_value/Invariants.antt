use Rattle.std.proofs.Common.{◌≡◌, take}
use Rattle.watched_streams.specs.Watch.{inner_of, has_failed}
use Rattle.pgn_book.specs.Inside.Flow.{Adds}
use Rattle.pgn_book.specs.Pgn.{escaped}
use Rattle.pgn_book.proofs.writing.put_value.Given as goal

abbrev pub invariant-loop-b : goal.invariant-loop-b
invariant-loop-b g l = (l.at.column ≡ l.fn.at.column)
    × Adds (g.W.Write.contents (inner_of l.initial.out)) (g.W.Write.contents (inner_of l.out)) (has_failed l.initial.out) (has_failed l.out) l.fn.at l.at (escaped (take l.b-index l.value))
