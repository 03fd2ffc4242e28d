use Rattle.live_lines.proofs.RecoveredLemmas.{recovered}
use Rattle.live_lines.proofs.laws.texts_are_recovered.Goals as goal

pub returns : goal.returns
returns c = recovered c.shows_once.ensures c.recovers_once.ensures.score c.woven_bytes_show_what_is_put_in.ensures
