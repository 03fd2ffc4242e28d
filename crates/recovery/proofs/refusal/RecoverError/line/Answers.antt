use Prim.{search}
use Rattle.std.proofs.Common.{rules}
use Rattle.recovery.proofs.refusal.RecoverError.line.Goals as goal

pub returns-in-Write : goal.returns-in-Write
returns-in-Write c = search rules
