use Rattle.board_cable.proofs.LineLemmas.{held_until_numbered}
use Rattle.board_cable.proofs.laws.held_until_numbered.Goals as goal

pub returns : goal.returns
returns c = held_until_numbered
