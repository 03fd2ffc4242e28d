use Rattle.game_over.proofs.Endings.{taken_back_ends_nothing}
use Rattle.game_over.proofs.laws.taken_back_ends_nothing.Goals as goal

pub returns : goal.returns
returns c = taken_back_ends_nothing
