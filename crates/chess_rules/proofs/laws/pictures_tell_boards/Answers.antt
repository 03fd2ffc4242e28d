use Rattle.chess_rules.proofs.LawLemmas.{pictures_tell_boards}
use Rattle.chess_rules.proofs.laws.pictures_tell_boards.Goals as goal

pub returns : goal.returns
returns c = pictures_tell_boards
