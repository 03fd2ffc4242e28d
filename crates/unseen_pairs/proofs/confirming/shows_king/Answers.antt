use Prim.{search}
use Rattle.std.proofs.Common.{rules}
use Rattle.unseen_pairs.proofs.confirming.shows_king.Goals as goal

pub returns-else-picture-eq-WHITE_KING-3 : goal.returns-else-picture-eq-WHITE_KING-3
returns-else-picture-eq-WHITE_KING-3 c = search rules
