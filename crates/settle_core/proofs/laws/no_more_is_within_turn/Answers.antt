use Rattle.settle_core.proofs.Waiting.{no_more_is_within_turn}
use Rattle.settle_core.proofs.laws.no_more_is_within_turn.Goals as goal

pub returns : goal.returns
returns c = no_more_is_within_turn
