use Rattle.chess_text.specs.Inside.FieldReading.{fields_in}
use Rattle.chess_text.proofs.FenTexts.{reads_parts, never_started}
use Rattle.std.proofs.Common.{arith}
use Rattle.chess_text.proofs.fen.read_parts.Goals as goal

pub returns-then-fullmove-eq0-clause-refusal : goal.returns-then-fullmove-eq0-clause-refusal
returns-then-fullmove-eq0-clause-refusal c = (
  fields_in c.in-Some.fields,
  c.in-Some.ensures.some,
  never_started (fields_in c.in-Some.fields) c.in-Some-counter_of-2.fullmove (omega arith) c.in-Some-counter_of-2.ensures.some.1,
)

pub returns-clause-parts : goal.returns-clause-parts
returns-clause-parts c =
    let p = c.in-Some-read_placement in
    reads_parts c.args.text.now (fields_in c.in-Some.fields) p.board c.in-Some-counter_of.halfmove c.in-Some-counter_of-2.fullmove
    c.in-Some.ensures.some p.ensures.squares p.ensures.some c.in-Some-counter_of.ensures.some c.in-Some-counter_of-2.ensures.some (omega arith)
