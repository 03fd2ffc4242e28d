use Rattle.board_game.proofs.OnceLemmas.{hears_once}
use Rattle.board_game.proofs.laws.hears_once.Goals as goal

pub returns : goal.returns
returns c = hears_once c.shows_once.ensures c.recovers_once.ensures.score
