use Rattle.std.proofs.Common.{refl}
use Rattle.chess_rules.proofs.initial.first_board.Goals as goal

pub returns : goal.returns
returns c = refl
