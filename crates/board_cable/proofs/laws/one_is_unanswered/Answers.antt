use Rattle.board_cable.proofs.Requests.{one_is_unanswered}
use Rattle.board_cable.proofs.laws.one_is_unanswered.Goals as goal

pub returns : goal.returns
returns c = one_is_unanswered
