use Rattle.game_over.proofs.LastMove.{last_move_stays}
use Rattle.game_over.proofs.laws.last_move_stays.Goals as goal

pub returns : goal.returns
returns c = last_move_stays
