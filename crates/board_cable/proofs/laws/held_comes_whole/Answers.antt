use Rattle.board_cable.proofs.Lost.{held_comes_whole}
use Rattle.board_cable.proofs.laws.held_comes_whole.Goals as goal

pub returns : goal.returns
returns c = held_comes_whole
