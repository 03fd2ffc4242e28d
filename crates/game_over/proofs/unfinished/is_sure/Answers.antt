use Rattle.std.proofs.Common.{arith}
use Rattle.game_over.proofs.Sure.{sure}
use Rattle.game_over.proofs.unfinished.is_sure.Goals as goal

pub returns-then-first-gt0 : goal.returns-then-first-gt0
returns-then-first-gt0 c =
    sure _ _ _ _ c.if-first-gt0.true (omega (arith, c.if-kept-eq0.false)) c.requires (omega (arith, c.if-kept-moves.false)) c.is_home_at.ensures
