use Rattle.answer_lines.proofs.AnswerLemmas.{said_once}
use Rattle.answer_lines.proofs.laws.is_said_in_one_way.Goals as goal

pub returns : goal.returns
returns c = said_once
