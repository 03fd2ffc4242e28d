use Rattle.board_live.proofs.Told.{unheeded_resumes}
use Rattle.board_live.proofs.laws.unheeded_resumes.Goals as goal

pub returns : goal.returns
returns c = unheeded_resumes
