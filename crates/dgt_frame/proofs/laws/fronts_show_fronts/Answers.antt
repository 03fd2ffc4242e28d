use Rattle.dgt_frame.proofs.FrontLemmas.{shows_fronts}
use Rattle.dgt_frame.proofs.laws.fronts_show_fronts.Goals as goal

pub returns : goal.returns
returns c bytes more events all rest last h k = shows_fronts 0 bytes more events all rest last h k
