use Rattle.answer_lines.proofs.DoneLemmas.{done_last}
use Rattle.answer_lines.proofs.laws.done_is_last.Goals as goal

pub returns : goal.returns
returns c = done_last
