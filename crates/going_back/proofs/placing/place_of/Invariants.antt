use Rattle.std.proofs.Common.{◌≡◌, drop}
use Rattle.settle_core.specs.Settling.{Line}
use Rattle.settle_core.specs.Folding.{moves_of}
use Rattle.going_back.proofs.PlaceLemmas.{PlaceFound, PlaceSought}
use Rattle.going_back.proofs.placing.place_of.Given as goal

abbrev pub invariant-loop-ply : goal.invariant-loop-ply
invariant-loop-ply l = record {
  line : Line l.position (moves_of (drop l.ply-index l.plies));
  count : l.number ≡ l.ply-index;
  found : PlaceFound l.start l.plies l.position (drop l.ply-index l.plies) l.text l.ply-index;
  sought : PlaceSought l.start l.plies l.position (drop l.ply-index l.plies) l.text l.ply-index;
}
