use Rattle.board_cable.proofs.Aside.{aside_comes_whole}
use Rattle.board_cable.proofs.laws.aside_comes_whole.Goals as goal

pub returns : goal.returns
returns c = aside_comes_whole
