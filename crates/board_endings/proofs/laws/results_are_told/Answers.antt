use Rattle.board_endings.proofs.Results.{results_are_told}
use Rattle.board_endings.proofs.laws.results_are_told.Goals as goal

pub returns : goal.returns
returns c = results_are_told
