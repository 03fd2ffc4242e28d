use Rattle.board_live.proofs.Filed.{files_say_the_same}
use Rattle.board_live.proofs.laws.files_say_the_same.Goals as goal

pub returns : goal.returns
returns c = files_say_the_same c.silence_is_forgotten.ensures
