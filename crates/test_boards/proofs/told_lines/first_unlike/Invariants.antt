use Rattle.live_lines.specs.Recorder.{HasBegun}
use Rattle.test_boards.proofs.told_lines.first_unlike.Given as goal

abbrev pub invariant-each : goal.invariant-each
invariant-each l = HasBegun l.recorder
