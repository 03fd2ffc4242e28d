use Rattle.std.proofs.Common.{take}
use Rattle.typed_lines.proofs.LineLemmas.{SoFar}
use Rattle.typed_lines.proofs.spelling.only.Given as goal

abbrev pub invariant-loop-m : goal.invariant-loop-m
invariant-loop-m l = SoFar l.manner l.p l.word (take l.m-index l.moves) l.found
