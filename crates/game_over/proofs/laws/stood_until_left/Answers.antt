use Rattle.game_over.proofs.Stood.{stood_until_left}
use Rattle.game_over.proofs.laws.stood_until_left.Goals as goal

pub returns : goal.returns
returns c = stood_until_left
