use Rattle.board_standing.proofs.SetUps.{setting_up_exactly}
use Rattle.board_standing.proofs.laws.setting_up_exactly.Goals as goal

pub returns : goal.returns
returns c = setting_up_exactly
