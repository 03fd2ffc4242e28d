use Rattle.board_cable.proofs.Lost.{no_byte_is_lost}
use Rattle.board_cable.proofs.laws.no_byte_is_lost.Goals as goal

pub returns : goal.returns
returns c = no_byte_is_lost
