use Rattle.std.proofs.Common.{◌≡◌, ◌++◌, ◌+◌, ◌*◌, ◌-◌, ◌≤◌, drop}
use Rattle.arrayvec.specs.ArrayString.{array_string_len}
use Rattle.chess_text.specs.Placement.{placement, ranks_text}
use Rattle.chess_text.proofs.placement.write_placement.Given as goal

abbrev pub invariant-loop-r : goal.invariant-loop-r
invariant-loop-r l = (placement l.picture ≡ l.out.bytes ++ ranks_text (8 - l.r) (drop (8 * l.r) l.picture))
    × (array_string_len l.out + 1 ≤ 9 * l.r)
