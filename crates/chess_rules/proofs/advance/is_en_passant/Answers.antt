use Prim.{search}
use Rattle.std.proofs.Common.{rules}
use Rattle.chess_rules.proofs.advance.is_en_passant.Goals as goal

pub returns-then-not-from-to : goal.returns-then-not-from-to
returns-then-not-from-to c = search rules
