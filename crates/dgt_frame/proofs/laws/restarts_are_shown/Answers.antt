use Rattle.dgt_frame.proofs.RestartLemmas.{restarts_are_shown}
use Rattle.dgt_frame.proofs.laws.restarts_are_shown.Goals as goal

pub returns : goal.returns
returns c = restarts_are_shown
