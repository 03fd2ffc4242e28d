use Rattle.board_session.proofs.UnseenLemmas.{three_unseen_add_nothing}
use Rattle.board_session.proofs.laws.three_unseen_add_nothing.Goals as goal

pub returns : goal.returns
returns c = three_unseen_add_nothing
