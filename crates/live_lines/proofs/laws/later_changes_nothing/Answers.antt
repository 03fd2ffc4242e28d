use Rattle.live_lines.proofs.FunctionLemmas.{later_changes_nothing}
use Rattle.live_lines.proofs.laws.later_changes_nothing.Goals as goal

pub returns : goal.returns
returns c = later_changes_nothing c.says_one_thing.ensures
