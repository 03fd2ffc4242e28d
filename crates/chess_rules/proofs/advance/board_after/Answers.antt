use Prim.{search}
use Rattle.std.proofs.Common.{rules}
use Rattle.chess_rules.proofs.advance.board_after.Goals as goal

pub returns-then-is_en_passant : goal.returns-then-is_en_passant
returns-then-is_en_passant c = search rules
