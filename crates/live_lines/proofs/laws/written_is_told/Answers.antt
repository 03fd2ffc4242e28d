use Rattle.live_lines.proofs.NextLemmas.{told}
use Rattle.live_lines.proofs.laws.written_is_told.Goals as goal

pub returns : goal.returns
returns c = told
