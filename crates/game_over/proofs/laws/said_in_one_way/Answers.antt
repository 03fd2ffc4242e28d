use Rattle.game_over.proofs.OneWay.{said_in_one_way}
use Rattle.game_over.proofs.laws.said_in_one_way.Goals as goal

pub returns : goal.returns
returns c = said_in_one_way
