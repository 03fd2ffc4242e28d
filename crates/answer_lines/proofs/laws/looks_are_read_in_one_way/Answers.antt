use Rattle.answer_lines.proofs.LookLemmas.{looks_and_said_once}
use Rattle.answer_lines.proofs.laws.looks_are_read_in_one_way.Goals as goal

pub returns : goal.returns
returns c = looks_and_said_once
