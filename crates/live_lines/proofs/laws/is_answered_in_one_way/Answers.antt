use Rattle.live_lines.proofs.AnswerLemmas.{answered_once}
use Rattle.live_lines.proofs.laws.is_answered_in_one_way.Goals as goal

pub returns : goal.returns
returns c = answered_once
