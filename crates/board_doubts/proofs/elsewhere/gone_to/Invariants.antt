use Rattle.std.proofs.Common.{◌&&◌}
use Rattle.board_doubts.specs.Elsewhere.{differs, may_have_gone}
use Rattle.board_doubts.proofs.Walking.{HasTaken}
use Rattle.board_doubts.proofs.elsewhere.gone_to.Given as goal

abbrev pub invariant-left : goal.invariant-left
invariant-left l = HasTaken l.left l.squares (λ s. may_have_gone l.black l.position l.picture s && differs l.other l.picture s)

abbrev pub decreases-left : goal.decreases-left
decreases-left l = l.left
