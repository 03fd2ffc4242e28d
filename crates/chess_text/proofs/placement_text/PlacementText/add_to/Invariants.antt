use Rattle.std.proofs.Common.{◌≡◌, ◌≤◌, ◌*◌, length, take}
use Rattle.chess_text.proofs.KeptLemmas.{texts_in}
use Rattle.chess_text.proofs.placement_text.PlacementText.add_to.Given as goal

abbrev pub invariant-loop-rank : goal.invariant-loop-rank
invariant-loop-rank g l = (take l.len l.line ≡ texts_in (take l.rank-index l.rank-items)) × (l.len ≤ 9 * l.rank-index) × (length l.line ≡ 80)
