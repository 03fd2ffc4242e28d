use Rattle.std.proofs.Common.{◌-◌, ◌≤◌, List, [], length, take}
use Rattle.dgt_frame.specs.Decoder.{Decoded}
use Rattle.dgt_frame.specs.Streams.{Timed}
use Rattle.board_events.specs.Commands.{past_of}
use Rattle.board_events.specs.Settings.{Setting}
use Rattle.board_captures.specs.Reading.{StandsForCapture}
use Rattle.board_captures.proofs.reading.take_bytes.Given as goal

abbrev pub invariant-events : goal.invariant-events
invariant-events l = record {
  inside : l.at ≤ length l.bytes;
  fed : (events : List Timed) × Decoded l.decoder (take l.at l.bytes) events
      × ((setting : Setting) → StandsForCapture l.fn.captured setting [] → StandsForCapture l.captured setting (past_of events));
}

abbrev pub decreases-events : goal.decreases-events
decreases-events l = length l.bytes - l.at
