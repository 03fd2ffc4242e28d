use Prim.{search}
use Rattle.std.proofs.Common.{rules}
use Rattle.chess_text.proofs.start.start_of.Goals as goal

pub returns-in-Some-clause-start : goal.returns-in-Some-clause-start
returns-in-Some-clause-start c = search rules
