use Rattle.board_standing.proofs.Meaning.{unplugged_exactly}
use Rattle.board_standing.proofs.laws.unplugged_exactly.Goals as goal

pub returns : goal.returns
returns c = unplugged_exactly
