use Rattle.board_cable.proofs.InVain.{asked_in_vain_is_silent}
use Rattle.board_cable.proofs.laws.asked_in_vain_is_silent.Goals as goal

pub returns : goal.returns
returns c = asked_in_vain_is_silent
