use Rattle.std.proofs.Common.{◌≡◌, drop}
use Rattle.settle_core.specs.Settling.{Line, position_after}
use Rattle.settle_core.specs.Folding.{moves_of}
use Rattle.going_back.proofs.going.position_behind.Given as goal

abbrev pub invariant-loop-ply : goal.invariant-loop-ply
invariant-loop-ply l = record {
  line : Line l.position (moves_of (drop l.ply-index l.plies));
  position : position_after l.position (moves_of (drop l.ply-index l.plies)) ≡ position_after l.start (moves_of l.plies);
}
