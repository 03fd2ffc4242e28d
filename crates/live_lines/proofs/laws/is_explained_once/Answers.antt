use Rattle.live_lines.proofs.OnceLemmas.{explained_once}
use Rattle.live_lines.proofs.laws.is_explained_once.Goals as goal

pub returns : goal.returns
returns c = explained_once c.shows_once.ensures c.recovers_once.ensures.score c.fit_is_one.ensures
