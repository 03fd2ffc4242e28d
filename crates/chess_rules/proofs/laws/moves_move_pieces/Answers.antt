use Rattle.chess_rules.proofs.LawLemmas.{moves_move_pieces}
use Rattle.chess_rules.proofs.laws.moves_move_pieces.Goals as goal

pub returns : goal.returns
returns c = moves_move_pieces
