use Rattle.board_session.proofs.AnyLemmas.{nothing_is_invented}
use Rattle.board_session.proofs.LeftLemmas.{nothing_written_is_invented}
use Rattle.board_session.proofs.laws.nothing_is_invented.Goals as goal

pub returns-clause-recorded : goal.returns-clause-recorded
returns-clause-recorded c = nothing_is_invented

pub returns-clause-written : goal.returns-clause-written
returns-clause-written c = nothing_written_is_invented
