use Rattle.live_lines.proofs.KeptLemmas.{files_are_as_filed}
use Rattle.live_lines.proofs.laws.files_are_as_filed.Goals as goal

pub returns : goal.returns
returns c = files_are_as_filed
