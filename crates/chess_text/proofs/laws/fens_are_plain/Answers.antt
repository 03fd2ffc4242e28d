use Rattle.chess_text.proofs.FenPlain.{fens_plain}
use Rattle.chess_text.proofs.laws.fens_are_plain.Goals as goal

pub returns : goal.returns
returns c = fens_plain
