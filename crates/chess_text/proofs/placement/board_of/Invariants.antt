use Rattle.std.proofs.Common.{◌≡◌, take, map, length}
use Rattle.chess_text.specs.Inside.PlacementReading.{decode}
use Rattle.chess_text.proofs.placement.board_of.Given as goal

abbrev pub invariant-loop-square : goal.invariant-loop-square
invariant-loop-square l = (length l.board ≡ 64) × (take l.square l.board ≡ map decode (take l.square l.picture))
