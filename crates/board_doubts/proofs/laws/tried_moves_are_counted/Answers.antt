use Rattle.board_doubts.proofs.Counted.{tried_moves_are_counted}
use Rattle.board_doubts.proofs.laws.tried_moves_are_counted.Goals as goal

pub returns : goal.returns
returns c = tried_moves_are_counted
