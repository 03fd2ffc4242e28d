use Rattle.game_over.proofs.Standing.{ends_after_ten_seconds}
use Rattle.game_over.proofs.laws.ends_after_ten_seconds.Goals as goal

pub returns : goal.returns
returns c = ends_after_ten_seconds
