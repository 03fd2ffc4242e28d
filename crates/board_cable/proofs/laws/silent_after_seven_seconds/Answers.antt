use Rattle.board_cable.proofs.Silences.{silent_after_seven_seconds}
use Rattle.board_cable.proofs.laws.silent_after_seven_seconds.Goals as goal

pub returns : goal.returns
returns c = silent_after_seven_seconds
