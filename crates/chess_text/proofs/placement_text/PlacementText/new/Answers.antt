use Prim.{search}
use Rattle.std.proofs.Common.{rules}
use Rattle.chess_text.proofs.placement_text.PlacementText.new.Goals as goal

pub returns : goal.returns
returns c = search rules
