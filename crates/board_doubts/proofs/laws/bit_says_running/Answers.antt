use Rattle.board_doubts.proofs.Bits.{bit_says_running}
use Rattle.board_doubts.proofs.laws.bit_says_running.Goals as goal

pub returns : goal.returns
returns c = bit_says_running
