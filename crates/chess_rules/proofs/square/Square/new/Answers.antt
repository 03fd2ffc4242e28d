use Prim.{search}
use Rattle.std.proofs.Common.{rules}
use Rattle.chess_rules.proofs.square.Square.new.Goals as goal

pub invariant_of-result : goal.invariant_of-result
invariant_of-result c = search rules
