use Rattle.board_game.proofs.OnceLemmas.{end_due_once}
use Rattle.board_game.proofs.laws.end_due_once.Goals as goal

pub returns : goal.returns
returns c = end_due_once c.shows_once.ensures c.recovers_once.ensures.score c.due_once.ensures
