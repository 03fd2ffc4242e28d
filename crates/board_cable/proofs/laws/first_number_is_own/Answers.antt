use Rattle.board_cable.proofs.LineLemmas.{first_number_is_own}
use Rattle.board_cable.proofs.laws.first_number_is_own.Goals as goal

pub returns : goal.returns
returns c = first_number_is_own
