use Rattle.board_standing.proofs.SetUps.{turned_round_exactly}
use Rattle.board_standing.proofs.laws.turned_round_exactly.Goals as goal

pub returns : goal.returns
returns c = turned_round_exactly
