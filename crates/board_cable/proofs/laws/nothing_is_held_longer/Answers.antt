use Rattle.board_cable.proofs.LineLemmas.{nothing_is_held_longer}
use Rattle.board_cable.proofs.laws.nothing_is_held_longer.Goals as goal

pub returns : goal.returns
returns c = nothing_is_held_longer
