use Rattle.board_alarms.proofs.OnceLemmas.{looking_ends_all}
use Rattle.board_alarms.proofs.laws.looking_ends_all.Goals as goal

pub returns : goal.returns
returns c = looking_ends_all
