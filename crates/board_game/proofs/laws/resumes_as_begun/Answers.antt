use Rattle.board_game.proofs.Stopped.{resumes_as_begun}
use Rattle.board_game.proofs.laws.resumes_as_begun.Goals as goal

pub returns : goal.returns
returns c = resumes_as_begun
