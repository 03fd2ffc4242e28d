use Rattle.game_over.proofs.Correcting.{correction_ends}
use Rattle.game_over.proofs.laws.correction_ends.Goals as goal

pub returns : goal.returns
returns c = correction_ends
