use Rattle.std.proofs.Common.{◌≡◌, ◌-◌, ◌≤◌, false}
use Rattle.watched_streams.specs.Watch.{IsFlushed, inner_of, has_failed}
use Rattle.board_session.specs.Inside.Recorder.{IsFed, Reads, event_count}
use Rattle.board_session.proofs.recorder.Recorder.read_all.Given as goal

abbrev pub invariant-chunks : goal.invariant-chunks
invariant-chunks g l = record {
  within : l.total ≤ 67108864;
  fed : IsFed l.self.decoder;
  count : event_count l.self ≤ l.total;
  reading : has_failed l.reader ≡ false;
  working : has_failed l.board ≡ false;
  flushed : IsFlushed l.fn.board → IsFlushed l.board;
  reads : Reads l.fn.self l.self l.total (g.R.Read.remaining (inner_of l.fn.reader)) (g.R.Read.remaining (inner_of l.reader)) (g.B.Write.contents (inner_of l.fn.board)) (g.B.Write.contents (inner_of l.board));
}

abbrev pub decreases-chunks : goal.decreases-chunks
decreases-chunks g l = 67108865 - l.total
