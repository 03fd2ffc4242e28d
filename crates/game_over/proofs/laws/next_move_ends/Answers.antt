use Rattle.game_over.proofs.NextMove.{next_move_ends}
use Rattle.game_over.proofs.laws.next_move_ends.Goals as goal

pub returns : goal.returns
returns c = next_move_ends
