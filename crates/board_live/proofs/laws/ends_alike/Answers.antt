use Rattle.board_live.proofs.Ends.{ends_alike}
use Rattle.board_live.proofs.laws.ends_alike.Goals as goal

pub returns : goal.returns
returns c = ends_alike c.ends_once.ensures
