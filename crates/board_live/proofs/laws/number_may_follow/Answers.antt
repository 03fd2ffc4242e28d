use Rattle.board_live.proofs.Numbered.{number_may_follow}
use Rattle.board_live.proofs.laws.number_may_follow.Goals as goal

pub returns : goal.returns
returns c = number_may_follow c.silence_is_forgotten.ensures c.hears_once.ensures c.stays_until_due.ensures c.end_stays_until_due.ensures
