use Rattle.game_over.proofs.Behind.{moves_stay}
use Rattle.game_over.proofs.laws.moves_stay.Goals as goal

pub returns : goal.returns
returns c = moves_stay
