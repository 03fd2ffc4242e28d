use Rattle.board_endings.proofs.OnceLemmas.{tells_once}
use Rattle.board_endings.proofs.laws.tells_once.Goals as goal

pub returns : goal.returns
returns c = tells_once
