use Rattle.board_endings.proofs.Adding.{added_is_not_heard}
use Rattle.board_endings.proofs.laws.added_is_not_heard.Goals as goal

pub returns : goal.returns
returns c = added_is_not_heard
