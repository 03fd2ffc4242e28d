use Rattle.std.proofs.Common.{◌&&◌}
use Rattle.board_doubts.specs.Elsewhere.{differs, elsewhere}
use Rattle.board_doubts.proofs.Walking.{NoneMeets}
use Rattle.board_doubts.proofs.elsewhere.is_gone.Given as goal

abbrev pub invariant-left : goal.invariant-left
invariant-left l = NoneMeets l.left (λ s. elsewhere l.black l.from l.to s && differs l.position l.picture s)

abbrev pub decreases-left : goal.decreases-left
decreases-left l = l.left
