use Rattle.std.proofs.Common.{◌≡◌, ◌++◌, length}
use Rattle.board_times.specs.Times.{AllFit, lines_of}
use Rattle.board_times.proofs.reading.read_events.Given as goal

abbrev pub invariant-lines : goal.invariant-lines
invariant-lines l = record {
  done : l.text ≡ lines_of l.events.items ++ l.left;
  fit : AllFit l.events.items;
}

abbrev pub decreases-lines : goal.decreases-lines
decreases-lines l = length l.left
