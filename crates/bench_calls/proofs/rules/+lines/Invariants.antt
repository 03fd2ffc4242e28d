use Rattle.std.proofs.Common.{◌<◌}
use Rattle.chess_rules.specs.Moves.{ListsLegal}
use Rattle.bench_calls.proofs.rules.+lines.Given as goal

abbrev pub decreases-lines : goal.decreases-lines
decreases-lines l = l.depth

abbrev pub invariant-loop-m : goal.invariant-loop-m
invariant-loop-m l = record { listed : ListsLegal l.position l.m-items; deep : 1 < l.depth }
