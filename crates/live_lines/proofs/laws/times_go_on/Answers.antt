use Rattle.live_lines.proofs.ClockLemmas.{goes_on}
use Rattle.live_lines.proofs.laws.times_go_on.Goals as goal

pub returns : goal.returns
returns c = goes_on
