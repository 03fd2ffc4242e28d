use Rattle.live_lines.proofs.NextLemmas.{waits}
use Rattle.live_lines.proofs.laws.waits_for_it.Goals as goal

pub returns : goal.returns
returns c = waits
