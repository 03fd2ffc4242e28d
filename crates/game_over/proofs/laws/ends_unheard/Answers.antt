use Rattle.game_over.proofs.Standing.{ends_unheard}
use Rattle.game_over.proofs.laws.ends_unheard.Goals as goal

pub returns : goal.returns
returns c = ends_unheard
