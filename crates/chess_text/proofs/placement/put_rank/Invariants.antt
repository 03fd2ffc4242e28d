use Rattle.std.proofs.Common.{◌≡◌, ◌++◌, ◌+◌, ◌≤◌, drop}
use Rattle.arrayvec.specs.ArrayString.{array_string_len}
use Rattle.chess_text.specs.Placement.{rank_text}
use Rattle.chess_text.proofs.placement.put_rank.Given as goal

abbrev pub invariant-loop-c : goal.invariant-loop-c
invariant-loop-c l = (l.initial.out.bytes ++ rank_text 0 l.rank ≡ l.out.bytes ++ rank_text l.empty (drop l.c-index l.rank))
    × (l.empty ≤ l.c-index) × (array_string_len l.out + l.empty ≤ array_string_len l.initial.out + l.c-index)
