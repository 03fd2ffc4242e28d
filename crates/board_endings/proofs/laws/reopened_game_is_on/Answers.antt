use Rattle.board_endings.proofs.Reopening.{reopened_game_is_on}
use Rattle.board_endings.proofs.laws.reopened_game_is_on.Goals as goal

pub returns : goal.returns
returns c = reopened_game_is_on
