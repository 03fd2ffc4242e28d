use Rattle.board_cable.proofs.Requests.{shut_lines_are_left}
use Rattle.board_cable.proofs.laws.shut_lines_are_left.Goals as goal

pub returns : goal.returns
returns c = shut_lines_are_left
