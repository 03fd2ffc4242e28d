use Rattle.std.proofs.Common.{◌==◌, ◌&&◌, slice_index}
use Rattle.board_doubts.specs.Elsewhere.{is_of}
use Rattle.board_doubts.proofs.Walking.{NoneMeets}
use Rattle.board_doubts.proofs.elsewhere.is_lifted.Given as goal

abbrev pub invariant-left : goal.invariant-left
invariant-left l = NoneMeets l.left (λ s. is_of l.black (slice_index l.position s) && (slice_index l.picture s == 0))

abbrev pub decreases-left : goal.decreases-left
decreases-left l = l.left
