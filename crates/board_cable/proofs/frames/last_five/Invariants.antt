use Rattle.std.proofs.Common.{◌≡◌, ◌++◌, take, drop}
use Rattle.board_cable.proofs.frames.last_five.Given as goal

abbrev pub invariant-loop-byte : goal.invariant-loop-byte
invariant-loop-byte l = l.five ≡ drop l.byte-index (l.fn.last ++ take l.byte-index l.tail)
