use Prim.{search}
use Rattle.std.proofs.Common.{rules}
use Rattle.chess_text.proofs.placement.put_run.Goals as goal

pub returns-then-empty-ne0-clause-text : goal.returns-then-empty-ne0-clause-text
returns-then-empty-ne0-clause-text c = search rules
