use Prim.{search}
use Rattle.std.proofs.Common.{rules}
use Rattle.dgt_frame.proofs.time.read_time.Goals as goal

pub returns : goal.returns
returns c = search rules

pub returns-then-bytes-eq1 : goal.returns-then-bytes-eq1
returns-then-bytes-eq1 c = search rules

pub returns-in_default : goal.returns-in_default
returns-in_default c = search rules
