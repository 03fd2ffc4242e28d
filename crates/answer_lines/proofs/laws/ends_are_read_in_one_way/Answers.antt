use Rattle.answer_lines.proofs.EndLemmas.{ends_once}
use Rattle.answer_lines.proofs.laws.ends_are_read_in_one_way.Goals as goal

pub returns : goal.returns
returns c = ends_once
