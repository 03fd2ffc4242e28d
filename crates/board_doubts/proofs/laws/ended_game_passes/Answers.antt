use Rattle.board_doubts.proofs.Ended.{ended_game_passes}
use Rattle.board_doubts.proofs.laws.ended_game_passes.Goals as goal

pub returns : goal.returns
returns c = ended_game_passes
