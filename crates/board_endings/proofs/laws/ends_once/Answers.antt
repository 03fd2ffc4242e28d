use Rattle.board_endings.proofs.OnceLemmas.{ends_once}
use Rattle.board_endings.proofs.laws.ends_once.Goals as goal

pub returns : goal.returns
returns c = ends_once c.said_in_one_way.ensures
