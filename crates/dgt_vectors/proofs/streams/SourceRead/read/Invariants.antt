use Rattle.std.proofs.Common.{◌≤◌}
use Rattle.dgt_vectors.proofs.streams.SourceRead.read.Given as goal

abbrev pub invariant-loop-place : goal.invariant-loop-place
invariant-loop-place l = l.count ≤ l.place-index
