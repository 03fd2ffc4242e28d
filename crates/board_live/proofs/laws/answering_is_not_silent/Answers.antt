use Rattle.board_live.proofs.Told.{answering_is_not_silent}
use Rattle.board_live.proofs.laws.answering_is_not_silent.Goals as goal

pub returns : goal.returns
returns c = answering_is_not_silent c.silent_is_told.ensures
