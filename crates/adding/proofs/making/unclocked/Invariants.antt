use Rattle.std.proofs.Common.{◌≡◌, map, take}
use Rattle.adding.specs.Making.{unclocked}
use Rattle.adding.proofs.making.unclocked.Given as goal

abbrev pub invariant-loop-m : goal.invariant-loop-m
invariant-loop-m l = l.plies.items ≡ map unclocked (take l.m-index l.moves)
