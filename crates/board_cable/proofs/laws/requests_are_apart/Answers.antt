use Rattle.board_cable.proofs.Requests.{requests_are_apart}
use Rattle.board_cable.proofs.laws.requests_are_apart.Goals as goal

pub returns : goal.returns
returns c = requests_are_apart
