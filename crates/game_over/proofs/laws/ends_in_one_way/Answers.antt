use Rattle.game_over.proofs.OneEnd.{ends_in_one_way}
use Rattle.game_over.proofs.laws.ends_in_one_way.Goals as goal

pub returns : goal.returns
returns c = ends_in_one_way
