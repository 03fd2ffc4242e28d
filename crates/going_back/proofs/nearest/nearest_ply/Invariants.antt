use Rattle.std.proofs.Common.{◌≡◌, ◌≤◌, drop, length}
use Rattle.settle_core.specs.Settling.{Line}
use Rattle.settle_core.specs.Folding.{moves_of}
use Rattle.going_back.specs.Nearest.{IsSoFar}
use Rattle.going_back.proofs.NearLemmas.{FoundFar, NoneBefore}
use Rattle.going_back.proofs.nearest.nearest_ply.Given as goal

abbrev pub invariant-loop-ply : goal.invariant-loop-ply
invariant-loop-ply l = record {
  line : Line l.position (moves_of (drop l.ply-index l.plies));
  count : l.number ≡ l.ply-index;
  within : l.nearest.number ≤ length l.plies;
  found : FoundFar l.text l.start l.plies l.position (drop l.ply-index l.plies) l.ply-index;
  best : IsSoFar l.text l.start l.plies l.nearest.number l.nearest.far;
  none : NoneBefore l.text l.start l.plies l.position (drop l.ply-index l.plies) l.nearest.far;
}
