use Prim.{search}
use Rattle.std.proofs.Common.{rules}
use Rattle.chess_text.proofs.capture.is_capture.Goals as goal

pub returns-else-is_some : goal.returns-else-is_some
returns-else-is_some c = search rules
