use Rattle.board_cable.proofs.Requests.{faults_are_asked}
use Rattle.board_cable.proofs.laws.faults_are_asked.Goals as goal

pub returns : goal.returns
returns c = faults_are_asked
