use Prim.{search}
use Rattle.std.proofs.Common.{rules}
use Rattle.chess_text.proofs.placement.letter.Goals as goal

pub returns-in_default-clause-value : goal.returns-in_default-clause-value
returns-in_default-clause-value c = search rules
