use Rattle.std.proofs.Common.{◌≡◌, drop}
use Rattle.board_times.specs.Fitting.{covered}
use Rattle.board_times.proofs.fitting.covered.Given as goal

abbrev pub invariant-loop-event : goal.invariant-loop-event
invariant-loop-event l = covered l.count (drop l.event-index l.events) ≡ covered l.size l.events
