use Prim.{search}
use Rattle.std.proofs.Common.{rules}
use Rattle.chess_rules.proofs.advance.is_castling.Goals as goal

pub returns-then-holds_king : goal.returns-then-holds_king
returns-then-holds_king c = search rules
