use Rattle.game_over.proofs.Endings.{ends_once}
use Rattle.game_over.proofs.laws.ends_once.Goals as goal

pub returns : goal.returns
returns c = ends_once
