use Rattle.board_game.proofs.OnceLemmas.{opens_once}
use Rattle.board_game.proofs.laws.opens_once.Goals as goal

pub returns : goal.returns
returns c = opens_once c.shows_once.ensures c.recovers_once.ensures.score c.opens_once.ensures
