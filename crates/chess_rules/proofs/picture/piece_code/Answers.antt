use Prim.{search}
use Rattle.std.proofs.Common.{rules}
use Rattle.chess_rules.proofs.picture.piece_code.Goals as goal

pub returns-in-Black : goal.returns-in-Black
returns-in-Black c = search rules
