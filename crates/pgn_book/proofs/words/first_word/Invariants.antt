use Rattle.std.proofs.Common.{take}
use Rattle.pgn_book.proofs.WordLemmas.{NoBreak}
use Rattle.pgn_book.proofs.words.first_word.Given as goal

abbrev pub invariant-loop-i : goal.invariant-loop-i
invariant-loop-i l = NoBreak (take l.i l.bytes)
