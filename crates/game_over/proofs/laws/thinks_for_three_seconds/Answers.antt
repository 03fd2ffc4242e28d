use Rattle.game_over.proofs.Thinking.{thinks_for_three_seconds}
use Rattle.game_over.proofs.laws.thinks_for_three_seconds.Goals as goal

pub returns : goal.returns
returns c = thinks_for_three_seconds
