use Rattle.std.proofs.Common.{ap, ◌∙◌}
use Rattle.std.specs.Prelude.{count_by, nat_le}
use Rattle.board_doubts.specs.Pace.{pace_of}
use Rattle.board_doubts.proofs.Lent.{counted}
use Rattle.board_doubts.proofs.thinking.are_most.Goals as goal

pub returns : goal.returns
returns c plies keeps = ap (nat_le _) (c.count.ensures ∙ ap (count_by (λ one. one)) keeps ∙ counted pace_of plies)
