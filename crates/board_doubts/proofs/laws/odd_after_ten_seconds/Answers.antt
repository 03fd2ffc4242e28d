use Rattle.board_doubts.proofs.Odd.{odd_after_ten_seconds}
use Rattle.board_doubts.proofs.laws.odd_after_ten_seconds.Goals as goal

pub returns : goal.returns
returns c = odd_after_ten_seconds
