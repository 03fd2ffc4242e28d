use Rattle.recovery.proofs.WovenLemmas.{shows_put_in}
use Rattle.recovery.proofs.laws.woven_bytes_show_what_is_put_in.Goals as goal

pub returns : goal.returns
returns c = shows_put_in c.shows_once.ensures c.frames_are_put_in.ensures.between
