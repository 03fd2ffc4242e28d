use Prim.{search}
use Rattle.std.proofs.Common.{rules}
use Rattle.dgt_frame.proofs.decode.byte_limit.Goals as goal

pub returns-in-134 : goal.returns-in-134
returns-in-134 c = search rules
