use Rattle.std.proofs.Common.{take, ◌≡◌, false}
use Rattle.std.specs.List.{All}
use Rattle.chess_text.specs.Inside.FieldReading.{is_space}
use Rattle.chess_text.proofs.fields.first_field.Given as goal

abbrev pub invariant-loop-i : goal.invariant-loop-i
invariant-loop-i l = All (λ b. is_space b ≡ false) (take l.i l.bytes)
