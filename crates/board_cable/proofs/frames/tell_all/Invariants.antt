use Rattle.std.proofs.Common.{◌≡◌, ℕ, ◌-◌, ◌≤◌, List, ◌++◌, length, take}
use Rattle.dgt_frame.specs.Decoder.{Decoded}
use Rattle.dgt_frame.specs.Streams.{Timed}
use Rattle.board_cable.specs.declared.line.Event.{Event}
use Rattle.board_cable.specs.Asking.{StandsFor}
use Rattle.board_cable.specs.Frames.{last_five, with_shown}
use Rattle.board_cable.proofs.frames.tell_all.Given as goal

abbrev pub invariant-events : goal.invariant-events
invariant-events l = record {
  inside : l.taken ≤ length l.bytes;
  fed : (before : List ℕ) (old : List Timed) (past : List Event) → l.last ≡ last_five before → Decoded l.fn.decoder before old
      → StandsFor l.fn.asking past → (new : List Timed) × Decoded l.decoder (before ++ take l.taken l.bytes) (old ++ new)
      × StandsFor l.asking (with_shown l.at (before ++ l.bytes) new past);
}

abbrev pub decreases-events : goal.decreases-events
decreases-events l = length l.bytes - l.taken
