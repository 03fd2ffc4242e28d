use Rattle.board_live.proofs.Saids.{said_once}
use Rattle.board_live.proofs.laws.is_said_once.Goals as goal

pub returns : goal.returns
returns c = said_once c.hears_once.ensures
