use Rattle.std.proofs.Common.{take}
use Rattle.dgt_frame.specs.Decoder.{TakesAll}
use Rattle.dgt_frame.proofs.decode.Decoder.push_each.Given as goal

abbrev pub invariant-loop-i : goal.invariant-loop-i
invariant-loop-i l = TakesAll l.fn.self (take l.i l.bytes) l.self
