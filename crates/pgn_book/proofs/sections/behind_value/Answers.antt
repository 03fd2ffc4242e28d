use Rattle.std.proofs.Common.{◌+◌, sym, ◌∙◌, arith}
use Rattle.std.proofs.lemmas.List.{take_rest}
use Rattle.pgn_book.proofs.ReadingValues.{plain_passed, quoted_passed, quote_ends}
use Rattle.pgn_book.proofs.sections.behind_value.Goals as goal
use Rattle.pgn_book.proofs.sections.behind_value.Goals.{then-is_plain, else-is_plain+else-byte-eq34}

pub returns-then-byte-eq34 : goal.returns-then-byte-eq34
returns-then-byte-eq34 c =
    take_rest c.args.bytes.now (c.loop-i.i + 1)
    ∙ sym (quote_ends c.args.bytes.now c.loop-i.quoted c.loop-i.i (omega arith) c.loop-i.invariant (sym c.is_plain.ensures ∙ c.if-is_plain.false) c.if-byte-eq34.true)

pub loop-i-preserved : goal.loop-i-preserved
loop-i-preserved c =
    let bs = c.args.bytes.now in
    elim c.if-is_plain.branch [
      | then-is_plain w ↦ rw w.quoted-is (plain_passed bs c.loop-i.quoted c.loop-i.i (omega arith) c.loop-i.invariant (sym c.is_plain.ensures ∙ w.if-is_plain.true))
      | else-is_plain+else-byte-eq34 w ↦ rw w.quoted-is (quoted_passed bs c.loop-i.quoted c.loop-i.i (omega arith) c.loop-i.invariant (sym c.is_plain.ensures ∙ w.if-is_plain.false) w.if-byte-eq34.false)
    ]
