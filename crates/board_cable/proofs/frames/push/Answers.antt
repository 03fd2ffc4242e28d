use Rattle.std.proofs.Common.{arith}
use Rattle.board_cable.proofs.Fives.{five_shifted}
use Rattle.board_cable.proofs.frames.push.Goals as goal

pub returns : goal.returns
returns c = five_shifted c.args.five.now c.args.byte (omega arith)
