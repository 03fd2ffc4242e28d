use Prim.{search}
use Rattle.std.proofs.Common.{refl, rules}
use Rattle.std.proofs.lemmas.Bool.{false≢true, iff_false}
use Rattle.chess_rules.proofs.position.Position.new.Goals as goal

pub returns-clause-accepted : goal.returns-clause-accepted
returns-clause-accepted c = (
  λ _. record {
    squares = c.count_squares.ensures;
    counters = c.has_counters.ensures.0 c.if-not-has_counters.false;
    kings = c.has_kings.ensures.0 c.if-not-has_kings.false;
    pawns = c.has_pawns.ensures.0 c.if-not-has_pawns.false;
    rights = c.has_rights.ensures.0 c.if-not-has_rights.false;
    target = c.has_en_passant.ensures.0 c.if-not-has_en_passant.false;
    no_check = c.has_no_check.ensures.0 c.if-not-has_no_check.false;
  },
  λ _. refl,
)

pub returns-clause-err : goal.returns-clause-err
returns-clause-err c = search rules

pub returns-then-not-has_rights-clause-err : goal.returns-then-not-has_rights-clause-err
returns-then-not-has_rights-clause-err c = (
  c.has_counters.ensures.0 c.if-not-has_counters.false,
  c.has_kings.ensures.0 c.if-not-has_kings.false,
  c.has_pawns.ensures.0 c.if-not-has_pawns.false,
  iff_false c.has_rights.ensures c.if-not-has_rights.true,
)

pub returns-then-not-has_en_passant-clause-err : goal.returns-then-not-has_en_passant-clause-err
returns-then-not-has_en_passant-clause-err c = (
  c.has_counters.ensures.0 c.if-not-has_counters.false,
  c.has_kings.ensures.0 c.if-not-has_kings.false,
  c.has_pawns.ensures.0 c.if-not-has_pawns.false,
  c.has_rights.ensures.0 c.if-not-has_rights.false,
  iff_false c.has_en_passant.ensures c.if-not-has_en_passant.true,
)

pub returns-then-not-has_no_check-clause-err : goal.returns-then-not-has_no_check-clause-err
returns-then-not-has_no_check-clause-err c = (
  c.has_counters.ensures.0 c.if-not-has_counters.false,
  c.has_kings.ensures.0 c.if-not-has_kings.false,
  c.has_pawns.ensures.0 c.if-not-has_pawns.false,
  c.has_rights.ensures.0 c.if-not-has_rights.false,
  c.has_en_passant.ensures.0 c.if-not-has_en_passant.false,
  iff_false c.has_no_check.ensures c.if-not-has_no_check.true,
)

pub returns-then-not-has_counters-clause-accepted : goal.returns-then-not-has_counters-clause-accepted
returns-then-not-has_counters-clause-accepted c = (λ ok. absurd (false≢true ok), λ valid. absurd (iff_false c.has_counters.ensures c.if-not-has_counters.true valid.counters))

pub returns-then-not-has_kings-clause-accepted : goal.returns-then-not-has_kings-clause-accepted
returns-then-not-has_kings-clause-accepted c = (λ ok. absurd (false≢true ok), λ valid. absurd (iff_false c.has_kings.ensures c.if-not-has_kings.true valid.kings))

pub returns-then-not-has_pawns-clause-accepted : goal.returns-then-not-has_pawns-clause-accepted
returns-then-not-has_pawns-clause-accepted c = (λ ok. absurd (false≢true ok), λ valid. absurd (iff_false c.has_pawns.ensures c.if-not-has_pawns.true valid.pawns))

pub returns-then-not-has_rights-clause-accepted : goal.returns-then-not-has_rights-clause-accepted
returns-then-not-has_rights-clause-accepted c = (λ ok. absurd (false≢true ok), λ valid. absurd (iff_false c.has_rights.ensures c.if-not-has_rights.true valid.rights))

pub returns-then-not-has_en_passant-clause-accepted : goal.returns-then-not-has_en_passant-clause-accepted
returns-then-not-has_en_passant-clause-accepted c = (λ ok. absurd (false≢true ok), λ valid. absurd (iff_false c.has_en_passant.ensures c.if-not-has_en_passant.true valid.target))

pub returns-then-not-has_no_check-clause-accepted : goal.returns-then-not-has_no_check-clause-accepted
returns-then-not-has_no_check-clause-accepted c = (λ ok. absurd (false≢true ok), λ valid. absurd (iff_false c.has_no_check.ensures c.if-not-has_no_check.true valid.no_check))

pub returns-then-not-has_counters-clause-err : goal.returns-then-not-has_counters-clause-err
returns-then-not-has_counters-clause-err c = iff_false c.has_counters.ensures c.if-not-has_counters.true

pub returns-then-not-has_kings-clause-err : goal.returns-then-not-has_kings-clause-err
returns-then-not-has_kings-clause-err c = (
  c.has_counters.ensures.0 c.if-not-has_counters.false,
  iff_false c.has_kings.ensures c.if-not-has_kings.true,
)

pub returns-then-not-has_pawns-clause-err : goal.returns-then-not-has_pawns-clause-err
returns-then-not-has_pawns-clause-err c = (
  c.has_counters.ensures.0 c.if-not-has_counters.false,
  c.has_kings.ensures.0 c.if-not-has_kings.false,
  iff_false c.has_pawns.ensures c.if-not-has_pawns.true,
)
