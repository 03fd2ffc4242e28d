use Rattle.live_lines.proofs.TextLemmas.{recorded}
use Rattle.live_lines.proofs.laws.texts_are_recorded.Goals as goal

pub returns : goal.returns
returns c = recorded c.shows_once.ensures
