use Rattle.board_session.proofs.UnseenLemmas.{two_unseen_are_not_recorded}
use Rattle.board_session.proofs.laws.two_unseen_are_not_recorded.Goals as goal

pub returns : goal.returns
returns c = two_unseen_are_not_recorded
