use Rattle.board_session.proofs.LawLemmas.{faults_before_dumps_can_go, one_less}
use Rattle.board_session.proofs.laws.faults_before_dumps_can_go.Goals as goal

pub returns : goal.returns
returns c = record { same = faults_before_dumps_can_go; asks = one_less }
