use Prim.{search}
use Rattle.std.proofs.Common.{rules}
use Rattle.chess_rules.proofs.rules.names_promotion.Goals as goal

pub returns-then-row-last : goal.returns-then-row-last
returns-then-row-last c = search rules
