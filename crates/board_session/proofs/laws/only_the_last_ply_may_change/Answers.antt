use Rattle.board_session.proofs.AnyLemmas.{only_the_last_ply_may_change}
use Rattle.board_session.proofs.LeftLemmas.{only_the_last_ply_is_rewritten}
use Rattle.board_session.proofs.laws.only_the_last_ply_may_change.Goals as goal

pub returns-clause-recorded : goal.returns-clause-recorded
returns-clause-recorded c = only_the_last_ply_may_change

pub returns-clause-written : goal.returns-clause-written
returns-clause-written c = only_the_last_ply_is_rewritten c.fronts_show_fronts.ensures
