use Rattle.board_cable.proofs.LineLemmas.{own_sends_known_number}
use Rattle.board_cable.proofs.laws.own_sends_known_number.Goals as goal

pub returns : goal.returns
returns c = own_sends_known_number
