use Rattle.board_live.proofs.Says.{says_open_alarms}
use Rattle.board_live.proofs.laws.says_open_alarms.Goals as goal

pub returns : goal.returns
returns c = says_open_alarms c.opens_once.ensures
