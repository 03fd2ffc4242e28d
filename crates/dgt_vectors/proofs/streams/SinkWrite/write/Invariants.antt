use Rattle.std.proofs.Common.{◌≤◌}
use Rattle.dgt_vectors.proofs.streams.SinkWrite.write.Given as goal

abbrev pub invariant-loop-byte : goal.invariant-loop-byte
invariant-loop-byte l = l.count ≤ l.byte-index
