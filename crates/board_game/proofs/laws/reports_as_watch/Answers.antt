use Rattle.board_game.proofs.PlainLemmas.{reports_as_watch}
use Rattle.board_game.proofs.laws.reports_as_watch.Goals as goal

pub returns : goal.returns
returns c = reports_as_watch c.shows_once.ensures
