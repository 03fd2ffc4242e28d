use Rattle.std.proofs.lemmas.Bool.{iff_false}
use Rattle.chess_rules.proofs.rules.is_way_safe.Goals as goal

pub returns : goal.returns
returns c =
    let by = c.other-attackers.ensures in (
      λ t. record {
        king = rw (c.king_home_of.ensures, by) at c.is_safe.ensures.0 c.if-not-is_safe.false;
        crossed_square = rw (c.crossed_of.ensures, by) at c.is_safe-2.ensures.0 c.if-not-is_safe-2.false;
        target = rw (c.castling_target_of.ensures, by) at c.is_safe-3.ensures.0 t;
      },
      λ w. c.is_safe-3.ensures.1 (rw (c.castling_target_of.ensures, by) w.target),
    )

pub returns-then-not-is_safe-2 : goal.returns-then-not-is_safe-2
returns-then-not-is_safe-2 c =
    let no = iff_false c.is_safe-2.ensures c.if-not-is_safe-2.true in
    (λ t. cc, λ w. absurd (no (rw (c.crossed_of.ensures, c.other-attackers.ensures) w.crossed_square)))
