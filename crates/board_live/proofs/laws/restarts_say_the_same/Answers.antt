use Rattle.board_live.proofs.Says.{says_the_same}
use Rattle.board_live.proofs.laws.restarts_say_the_same.Goals as goal

pub returns : goal.returns
returns c = says_the_same c.hears_once.ensures c.opens_once.ensures c.stops_once.ensures c.ends_once.ensures c.end_due_once.ensures
