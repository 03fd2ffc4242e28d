use Rattle.std.proofs.Common.{◌≡◌, drop}
use Rattle.settle_core.specs.Settling.{Line}
use Rattle.settle_core.specs.Folding.{moves_of}
use Rattle.going_back.proofs.NameLemmas.{Found, Sought}
use Rattle.going_back.proofs.naming.ply_named.Given as goal

abbrev pub invariant-loop-ply : goal.invariant-loop-ply
invariant-loop-ply l = record {
  line : Line l.position (moves_of (drop l.ply-index l.plies));
  count : l.number ≡ l.ply-index;
  found : Found l.start l.plies l.position (drop l.ply-index l.plies) l.text l.ply-index;
  sought : Sought l.start l.plies l.position (drop l.ply-index l.plies) l.text l.ply-index;
}
