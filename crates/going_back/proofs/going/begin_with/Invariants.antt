use Rattle.std.proofs.Common.{◌≡◌, take}
use Rattle.going_back.proofs.going.begin_with.Given as goal

abbrev pub invariant-loop-ply : goal.invariant-loop-ply
invariant-loop-ply l = record {
  count : l.at ≡ l.ply-index;
  same : take l.ply-index l.plies ≡ take l.ply-index l.front;
}
