use Rattle.std.proofs.Common.{◌≡◌, ◌*◌, take}
use Rattle.chess_text.specs.KeptRanks.{codes_in}
use Rattle.chess_text.proofs.placement_text.PlacementText.show.Given as goal

abbrev pub invariant-loop-rank : goal.invariant-loop-rank
invariant-loop-rank l = codes_in (take l.rank l.self.ranks) ≡ take (8 * l.rank) l.picture
