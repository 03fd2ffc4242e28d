use Rattle.std.proofs.Common.{◌≡◌, take}
use Rattle.going_back.specs.Coming.{Comes}
use Rattle.going_back.proofs.coming.coming.Given as goal

abbrev pub invariant-loop-mv : goal.invariant-loop-mv
invariant-loop-mv l = record {
  count : l.place ≡ l.mv-index;
  come : Comes l.went (take l.mv-index l.moves) l.plies.items;
}
