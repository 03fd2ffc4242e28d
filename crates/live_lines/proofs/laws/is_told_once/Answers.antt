use Rattle.live_lines.proofs.EntryLemmas.{told_once}
use Rattle.live_lines.proofs.laws.is_told_once.Goals as goal

pub returns : goal.returns
returns c = told_once
