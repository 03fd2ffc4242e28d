use Rattle.game_over.proofs.Endings.{ends_with_result}
use Rattle.game_over.proofs.laws.ends_with_result.Goals as goal

pub returns : goal.returns
returns c = ends_with_result
