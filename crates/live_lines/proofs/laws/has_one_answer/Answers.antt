use Rattle.live_lines.proofs.OnceLemmas.{one_answer}
use Rattle.live_lines.proofs.laws.has_one_answer.Goals as goal

pub returns : goal.returns
returns c = one_answer c.is_told_once.ensures c.has_one_text.ensures c.is_explained_once.ensures c.is_answered_once.ensures c.wakes_once.ensures
