use Prim.{search}
use Rattle.std.proofs.Common.{rules}
use Rattle.dgt_frame.proofs.decode.message.Goals as goal

pub returns-in-142 : goal.returns-in-142
returns-in-142 c = search rules
