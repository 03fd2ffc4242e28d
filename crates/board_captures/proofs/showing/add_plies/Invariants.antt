use Rattle.std.proofs.Common.{◌≡◌, ◌+◌, ◌*◌, ◌++◌, List, None, drop, length}
use Rattle.dgt_frame.specs.declared.events.Event.{Event}
use Rattle.settle_core.specs.Settling.{Line}
use Rattle.settle_core.specs.Folding.{moves_of}
use Rattle.pair_frames.specs.PutIn.{ShowsWhole}
use Rattle.board_captures.specs.Shown.{plies_shown}
use Rattle.board_captures.proofs.showing.add_plies.Given as goal

abbrev pub invariant-loop-ply : goal.invariant-loop-ply
invariant-loop-ply l = record {
  line : Line l.position (moves_of (drop l.ply-index l.plies));
  shown : (done : List Event) × ((events : List Event) → ShowsWhole l.fn.out.items events → ShowsWhole l.out.items (events ++ done))
      × (done ++ plies_shown l.first l.rotated l.position l.before (drop l.ply-index l.plies) ≡ plies_shown l.first l.rotated l.start None l.plies);
  size : length l.out.items ≡ length l.fn.out.items + 77 * l.ply-index;
}
