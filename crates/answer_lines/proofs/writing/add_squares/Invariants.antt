use Rattle.std.proofs.Common.{◌≡◌, ◌++◌}
use Rattle.answer_lines.specs.Answers.{squares_below}
use Rattle.answer_lines.proofs.writing.add_squares.Given as goal

abbrev pub invariant-loop-square : goal.invariant-loop-square
invariant-loop-square l = l.out.items ≡ l.fn.out.items ++ squares_below l.square l.mask
