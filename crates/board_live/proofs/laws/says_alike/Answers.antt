use Rattle.board_live.proofs.Saids.{says_alike}
use Rattle.board_live.proofs.laws.says_alike.Goals as goal

pub returns : goal.returns
returns c = says_alike c.hears_once.ensures
