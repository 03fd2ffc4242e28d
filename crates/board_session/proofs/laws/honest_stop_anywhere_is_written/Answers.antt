use Rattle.board_session.proofs.LeftLemmas.{honest_stop_anywhere_is_written}
use Rattle.board_session.proofs.laws.honest_stop_anywhere_is_written.Goals as goal

pub returns : goal.returns
returns c = honest_stop_anywhere_is_written c.fronts_show_fronts.ensures
