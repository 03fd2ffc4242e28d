use Rattle.std.proofs.Common.{◌∙◌, sym, ap, subst, arith, length, refl}
use Rattle.std.proofs.lemmas.Bool.{false≢true, eqb-true, eqb-false}
use Rattle.chess_text.specs.Fen.{Fields, IsDigits}
use Rattle.chess_text.proofs.FenTexts.{HasBytes, bytes_of, no_form, split_as, not_spaces}
use Rattle.chess_text.proofs.fields.fields_of.Goals as goal
use Rattle.chess_text.proofs.fields.fields_of.Goals.{then-is_empty-via-then-is_empty, then-is_empty-via-else-is_empty+then-not-are_digits, then-is_empty-via-else-is_empty+else-not-are_digits+then-not-are_digits-2}

pub returns-in_default-clause-none : goal.returns-in_default-clause-none
returns-in_default-clause-none c = λ f h. no_form c.args.text.now f h c.in_default.ensures.not_four c.in_default.ensures.not_six

pub returns-in_default-side_of-clause-none : goal.returns-in_default-side_of-clause-none
returns-in_default-side_of-clause-none c = λ f h. c.in_default-side_of.ensures.none f.side (bytes_of c.args.text.now c.in-Some.raw f c.in-Some.ensures.some h).side

pub returns-in_default-castling_of-clause-none : goal.returns-in_default-castling_of-clause-none
returns-in_default-castling_of-clause-none c = λ f h. c.in_default-castling_of.ensures.none f.rights (bytes_of c.args.text.now c.in-Some.raw f c.in-Some.ensures.some h).castling

pub returns-in_default-target_of-clause-none : goal.returns-in_default-target_of-clause-none
returns-in_default-target_of-clause-none c = λ f h. c.in_default-target_of.ensures.none f.target h.are_fields.target (bytes_of c.args.text.now c.in-Some.raw f c.in-Some.ensures.some h).target

pub returns-then-is_empty-clause-none : goal.returns-then-is_empty-clause-none
returns-then-is_empty-clause-none c = λ f h.
    let b = bytes_of c.args.text.now c.in-Some.raw f c.in-Some.ensures.some h in
    elim c.then-is_empty.branch [
      | then-is_empty-via-then-is_empty w ↦ let none = eqb-true _ _ (sym c.is_empty.ensures ∙ w.if-is_empty.true) in omega (arith, none, ap length b.placement, h.are_fields.some)
      | then-is_empty-via-else-is_empty+then-not-are_digits w ↦ false≢true (sym w.if-not-are_digits.true ∙ w.are_digits.ensures.1 (subst IsDigits (sym b.halfmove) h.are_fields.halfmove))
      | then-is_empty-via-else-is_empty+else-not-are_digits+then-not-are_digits-2 w ↦ false≢true (sym w.if-not-are_digits-2.true ∙ w.are_digits-else-not-are_digits.ensures.1 (subst IsDigits (sym b.fullmove) h.are_fields.fullmove))
    ]

pub returns-clause-some : goal.returns-clause-some
returns-clause-some c =
    let raw = c.in-Some.raw in
    let filled = eqb-false _ _ (sym c.is_empty.ensures ∙ c.if-is_empty.false) in
    let fields : Fields = record { placement = raw.placement.now; side = c.in-Some-side_of.side; rights = c.in-Some-castling_of.rights; target = c.in-Some-target_of.target; halfmove = raw.halfmove.now; fullmove = raw.fullmove.now } in
    let bytes : HasBytes fields raw.placement.now raw.side.now raw.castling.now raw.target.now raw.halfmove.now raw.fullmove.now = record {
      placement = refl;
      side = c.in-Some-side_of.ensures.some;
      castling = c.in-Some-castling_of.ensures.some;
      target = c.in-Some-target_of.ensures.some.1;
      halfmove = refl;
      fullmove = refl;
    } in
    record {
      are_fields = record {
        some = omega (arith, filled);
        no_space = not_spaces raw.placement.now c.in-Some.ensures.plain;
        target = c.in-Some-target_of.ensures.some.0;
        halfmove = c.are_digits.ensures.0 c.if-not-are_digits.false;
        fullmove = c.are_digits-else-not-are_digits.ensures.0 c.if-not-are_digits-2.false;
      };
      split = split_as c.args.text.now raw fields c.in-Some.ensures.some bytes;
    }
