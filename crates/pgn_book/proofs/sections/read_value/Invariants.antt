use Rattle.pgn_book.proofs.ReadingValues.{IsReadTo}
use Rattle.pgn_book.proofs.sections.read_value.Given as goal

abbrev pub invariant-loop-i : goal.invariant-loop-i
invariant-loop-i l = IsReadTo l.bytes l.value.bytes l.quoted l.i
