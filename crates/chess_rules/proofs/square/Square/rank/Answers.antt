use Prim.{search}
use Rattle.std.proofs.Common.{rules}
use Rattle.chess_rules.proofs.square.Square.rank.Goals as goal

pub returns-clause-rank : goal.returns-clause-rank
returns-clause-rank c = search rules
