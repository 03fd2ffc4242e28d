use Rattle.std.proofs.Common.{◌≡◌, ℕ, Bool, false, List, length}
use Rattle.board_events.specs.declared.setup.Setup.{Setup}
use Rattle.watched_streams.specs.Watch.{IsFlushed, inner_of, has_failed}
use Rattle.live_lines.specs.Inside.Progress.{GoesOn, HasAttended}
use Rattle.live_lines.specs.Recorder.{HasBegun}
use Rattle.live_lines.proofs.stream.answer_all.Given as goal

abbrev pub invariant-entries : goal.invariant-entries
invariant-entries g l = record {
  working : has_failed l.out ≡ false;
  begun : HasBegun l.recorder;
  flushed : IsFlushed l.fn.out → IsFlushed l.out;
  attended : (setup : Setup) (recovers : Bool) (before said : List ℕ) → HasAttended l.fn.recorder setup recovers before said
      → GoesOn l.recorder setup recovers before said l.text l.left (g.O.Write.contents (inner_of l.fn.out)) (g.O.Write.contents (inner_of l.out));
}

abbrev pub decreases-entries : goal.decreases-entries
decreases-entries g l = length l.left
