use Rattle.std.proofs.Common.{arith}
use Rattle.chess_rules.proofs.Kings.{attacked_king, no_king_attacked}
use Rattle.chess_rules.proofs.rules.is_king_attacked.Goals as goal

pub returns-then-is_king_of : goal.returns-then-is_king_of
returns-then-is_king_of c =
    let a = attacked_king _ _ _ _ c.other-attackers.ensures (c.is_king_of.ensures.0 c.if-is_king_of.true) c.requires in
    (λ t. a.0 (c.is_attacked.ensures.0 t), λ h. c.is_attacked.ensures.1 (a.1 h))

pub returns : goal.returns
returns c = (λ t. cc, λ h. absurd (no_king_attacked _ _ c.told-board (λ k l. c.loop-i.invariant k (omega arith)) h))
