use Rattle.std.proofs.Common.{◌≡◌, false}
use Rattle.watched_streams.specs.Watch.{IsFlushed, inner_of, has_failed}
use Rattle.live_lines.specs.Inside.Progress.{HasCome}
use Rattle.live_lines.specs.Recorder.{HasBegun}
use Rattle.live_lines.proofs.stream.attend.Given as goal

abbrev pub invariant-reads : goal.invariant-reads
invariant-reads g l = record {
  reading : has_failed l.reader ≡ false;
  working : has_failed l.out ≡ false;
  flushed : IsFlushed l.out;
  begun : HasBegun l.recorder;
  come : HasCome l.recorder l.fn.setup l.recovers l.text.items (g.R.Read.remaining (inner_of l.fn.reader)) (g.R.Read.remaining (inner_of l.reader))
      (g.O.Write.contents (inner_of l.fn.out)) (g.O.Write.contents (inner_of l.out));
}
