use Rattle.live_lines.proofs.FunctionLemmas.{says_one_thing}
use Rattle.live_lines.proofs.laws.says_one_thing.Goals as goal

pub returns : goal.returns
returns c = says_one_thing c.is_told_once.ensures c.has_one_report.ensures c.has_one_answer.ensures
