use Rattle.std.proofs.Common.{◌≡◌, drop}
use Rattle.std.specs.Prelude.{◌||◌}
use Rattle.chess_text.specs.Inside.FieldReading.{has}
use Rattle.chess_text.proofs.fields.has.Given as goal

abbrev pub invariant-loop-b : goal.invariant-loop-b
invariant-loop-b l = has l.byte l.bytes ≡ l.found || has l.byte (drop l.b-index l.bytes)
