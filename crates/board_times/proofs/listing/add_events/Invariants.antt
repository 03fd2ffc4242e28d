use Rattle.std.proofs.Common.{◌≡◌, ◌++◌, drop}
use Rattle.board_times.specs.Listing.{event_lines}
use Rattle.board_times.proofs.listing.add_events.Given as goal

abbrev pub invariant-loop-event : goal.invariant-loop-event
invariant-loop-event l = l.out.items ++ event_lines l.before (drop l.event-index l.events) ≡ l.fn.out.items ++ event_lines l.size l.events
