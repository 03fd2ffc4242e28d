use Rattle.board_doubts.specs.Elsewhere.{is_astray}
use Rattle.board_doubts.proofs.Walking.{HasTaken}
use Rattle.board_doubts.proofs.elsewhere.astray.Given as goal

abbrev pub invariant-left : goal.invariant-left
invariant-left l = HasTaken l.left l.squares (is_astray l.black l.before l.position l.picture)

abbrev pub decreases-left : goal.decreases-left
decreases-left l = l.left
