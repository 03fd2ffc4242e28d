use Prim.{search}
use Rattle.std.proofs.Common.{rules}
use Rattle.chess_text.proofs.placement_text.PlacementText.rank_of.Goals as goal

pub returns-then-eq-clause-codes : goal.returns-then-eq-clause-codes
returns-then-eq-clause-codes c = search rules
