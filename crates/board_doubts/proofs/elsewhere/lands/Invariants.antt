use Rattle.std.proofs.Common.{◌==◌, ◌&&◌, not, slice_index}
use Rattle.board_doubts.specs.Elsewhere.{differs}
use Rattle.board_doubts.proofs.Walking.{NoneMeets}
use Rattle.board_doubts.proofs.elsewhere.lands.Given as goal

abbrev pub invariant-left : goal.invariant-left
invariant-left l = NoneMeets l.left (λ s. not (slice_index l.picture s == 0) && differs l.position l.picture s)

abbrev pub decreases-left : goal.decreases-left
decreases-left l = l.left
