use Prim.{search}
use Rattle.std.proofs.Common.{rules}
use Rattle.dgt_frame.proofs.encoding.encode.Goals as goal

pub returns-in-Update : goal.returns-in-Update
returns-in-Update c = search rules
