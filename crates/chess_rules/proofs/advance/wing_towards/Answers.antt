use Prim.{search}
use Rattle.std.proofs.Common.{rules}
use Rattle.chess_rules.proofs.advance.wing_towards.Goals as goal

pub returns-then-from-to : goal.returns-then-from-to
returns-then-from-to c = search rules
