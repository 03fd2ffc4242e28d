use Rattle.live_lines.proofs.OnceLemmas.{one_text}
use Rattle.live_lines.proofs.laws.has_one_text.Goals as goal

pub returns : goal.returns
returns c = one_text c.shows_once.ensures c.recovers_once.ensures.score c.one_text.ensures
