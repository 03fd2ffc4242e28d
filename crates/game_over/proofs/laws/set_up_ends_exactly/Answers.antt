use Rattle.game_over.proofs.SetUpEnds.{set_up_ends}
use Rattle.game_over.proofs.laws.set_up_ends_exactly.Goals as goal

pub returns : goal.returns
returns c = set_up_ends
