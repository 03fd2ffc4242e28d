use Rattle.std.proofs.Common.{◌≡◌, take, true}
use Rattle.std.specs.List.{list_all}
use Rattle.typed_lines.specs.Lines.{is_move_letter}
use Rattle.typed_lines.proofs.reading.are_move_letters.Given as goal

abbrev pub invariant-loop-b : goal.invariant-loop-b
invariant-loop-b l = list_all is_move_letter (take l.b-index l.heard) ≡ true
