use Rattle.std.proofs.Common.{◌≡◌, ◌++◌, replicate}
use Rattle.chess_text.proofs.placement.put_empty.Given as goal

abbrev pub invariant-loop-k : goal.invariant-loop-k
invariant-loop-k l = l.out.items ≡ l.initial.out.items ++ replicate l.k 0
