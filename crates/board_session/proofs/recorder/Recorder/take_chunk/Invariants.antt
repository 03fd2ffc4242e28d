use Rattle.std.proofs.Common.{◌≡◌, ◌+◌, ◌-◌, ◌≤◌, length, take, false, Ok}
use Rattle.watched_streams.specs.Watch.{IsFlushed, inner_of, has_failed}
use Rattle.board_session.specs.Inside.Recorder.{Hears, IsFed, event_count}
use Rattle.board_session.proofs.recorder.Recorder.take_chunk.Given as goal

abbrev pub invariant-events : goal.invariant-events
invariant-events g l = record {
  inside : l.at ≤ length l.chunk;
  fed : IsFed l.self.decoder;
  working : has_failed l.board ≡ false;
  flushed : IsFlushed l.fn.board → IsFlushed l.board;
  count : event_count l.self ≤ event_count l.fn.self + l.at;
  hears : Hears l.fn.self l.self (take l.at l.chunk) (Ok tt) (g.B.Write.contents (inner_of l.fn.board)) (g.B.Write.contents (inner_of l.board));
}

abbrev pub decreases-events : goal.decreases-events
decreases-events g l = length l.chunk - l.at
