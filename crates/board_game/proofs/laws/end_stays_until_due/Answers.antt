use Rattle.board_game.proofs.OnceLemmas.{end_stays}
use Rattle.board_game.proofs.laws.end_stays_until_due.Goals as goal

pub returns : goal.returns
returns c = end_stays c.shows_once.ensures c.recovers_once.ensures.score c.same_until_due.ensures
