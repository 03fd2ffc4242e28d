use Rattle.chess_rules.proofs.LawLemmas.{moves_stay_valid}
use Rattle.chess_rules.proofs.laws.moves_stay_valid.Goals as goal

pub returns : goal.returns
returns c = moves_stay_valid
