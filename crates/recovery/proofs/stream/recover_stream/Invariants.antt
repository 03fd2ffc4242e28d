use Rattle.std.proofs.Common.{◌≡◌, ◌-◌, ◌≤◌, false}
use Rattle.watched_streams.specs.Watch.{IsFlushed, inner_of, has_failed}
use Rattle.recovery.specs.Inside.Progress.{HasGiven}
use Rattle.recovery.proofs.stream.recover_stream.Given as goal

abbrev pub invariant-chunks : goal.invariant-chunks
invariant-chunks g l = record {
  within : l.total ≤ 67108864;
  reading : has_failed l.reader ≡ false;
  working : has_failed l.out ≡ false;
  telling : has_failed l.err ≡ false;
  flushed : IsFlushed l.fn.out → IsFlushed l.out;
  told : IsFlushed l.fn.err → IsFlushed l.err;
  given : HasGiven l.decoder l.keeper (record { start = l.fn.start; first = l.fn.first; rotated = l.fn.rotated }) l.total (g.R.Read.remaining (inner_of l.fn.reader)) (g.R.Read.remaining (inner_of l.reader))
      (g.O.Write.contents (inner_of l.fn.out)) (g.O.Write.contents (inner_of l.out)) (g.E.Write.contents (inner_of l.fn.err)) (g.E.Write.contents (inner_of l.err));
}

abbrev pub decreases-chunks : goal.decreases-chunks
decreases-chunks g l = 67108865 - l.total
