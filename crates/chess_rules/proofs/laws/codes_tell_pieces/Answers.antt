use Rattle.chess_rules.proofs.LawLemmas.{codes_tell_pieces}
use Rattle.chess_rules.proofs.laws.codes_tell_pieces.Goals as goal

pub returns : goal.returns
returns c = codes_tell_pieces
