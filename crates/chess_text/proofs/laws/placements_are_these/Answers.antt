use Rattle.chess_text.proofs.RankTexts.{placements_these}
use Rattle.chess_text.proofs.laws.placements_are_these.Goals as goal

pub returns : goal.returns
returns c = placements_these
