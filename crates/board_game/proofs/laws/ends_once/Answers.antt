use Rattle.board_game.proofs.OnceLemmas.{ends_once}
use Rattle.board_game.proofs.laws.ends_once.Goals as goal

pub returns : goal.returns
returns c = ends_once c.shows_once.ensures c.recovers_once.ensures.score c.ends_once.ensures
