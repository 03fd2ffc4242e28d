use Rattle.std.proofs.Common.{◌≡◌, ◌++◌, drop}
use Rattle.answer_lines.specs.Looks.{looks_text}
use Rattle.answer_lines.proofs.looks.add_looks.Given as goal

abbrev pub invariant-loop-look : goal.invariant-loop-look
invariant-loop-look l = l.out.items ++ looks_text (drop l.look-index l.looks) ≡ l.fn.out.items ++ looks_text l.looks
