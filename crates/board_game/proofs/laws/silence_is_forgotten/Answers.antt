use Rattle.board_game.proofs.SilenceLemmas.{is_forgotten}
use Rattle.board_game.proofs.laws.silence_is_forgotten.Goals as goal

pub returns : goal.returns
returns c = is_forgotten c.shows_once.ensures c.recovers_once.ensures.score c.opens_once.ensures c.stops_once.ensures c.ends_once.ensures c.due_once.ensures
