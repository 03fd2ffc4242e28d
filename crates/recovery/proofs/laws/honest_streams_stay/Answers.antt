use Rattle.recovery.proofs.LawLemmas.{leaves_alone}
use Rattle.recovery.proofs.laws.honest_streams_stay.Goals as goal

pub returns : goal.returns
returns c = leaves_alone c.shows_once.ensures
