use Prim.{search}
use Rattle.std.proofs.Common.{rules}
use Rattle.chess_rules.proofs.rules.is_en_passant.Goals as goal

pub returns-then-is_none : goal.returns-then-is_none
returns-then-is_none c = search rules
