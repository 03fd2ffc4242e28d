use Rattle.board_live.proofs.Answered.{answered_once}
use Rattle.board_live.proofs.laws.is_answered_once.Goals as goal

pub returns : goal.returns
returns c = answered_once c.hears_once.ensures c.opens_once.ensures c.stops_once.ensures c.ends_once.ensures
