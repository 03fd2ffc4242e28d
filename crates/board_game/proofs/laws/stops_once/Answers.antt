use Rattle.board_game.proofs.OnceLemmas.{stops_once}
use Rattle.board_game.proofs.laws.stops_once.Goals as goal

pub returns : goal.returns
returns c = stops_once c.shows_once.ensures c.recovers_once.ensures.score c.stops_once.ensures
