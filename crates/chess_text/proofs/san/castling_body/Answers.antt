use Prim.{search}
use Rattle.std.proofs.Common.{rules}
use Rattle.chess_text.proofs.san.castling_body.Goals as goal

pub returns-in-KingSide-clause-text : goal.returns-in-KingSide-clause-text
returns-in-KingSide-clause-text c = search rules
