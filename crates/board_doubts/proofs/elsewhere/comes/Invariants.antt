use Rattle.board_doubts.specs.Elsewhere.{comes_from}
use Rattle.board_doubts.proofs.Walking.{NoneMeets}
use Rattle.board_doubts.proofs.elsewhere.comes.Given as goal

abbrev pub invariant-left : goal.invariant-left
invariant-left l = NoneMeets l.left (comes_from l.position l.picture l.square)

abbrev pub decreases-left : goal.decreases-left
decreases-left l = l.left
