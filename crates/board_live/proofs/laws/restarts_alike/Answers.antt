use Rattle.board_live.proofs.Alike.{restarts_alike}
use Rattle.board_live.proofs.laws.restarts_alike.Goals as goal

pub returns : goal.returns
returns c = restarts_alike
