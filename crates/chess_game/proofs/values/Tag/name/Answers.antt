use Prim.{search}
use Rattle.std.proofs.Common.{rules}
use Rattle.chess_game.proofs.values.Tag.name.Goals as goal

pub returns-in-White-clause-name : goal.returns-in-White-clause-name
returns-in-White-clause-name c = search rules

pub returns-in-Black-clause-name : goal.returns-in-Black-clause-name
returns-in-Black-clause-name c = search rules
