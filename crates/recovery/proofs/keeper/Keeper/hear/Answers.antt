use Prim.{search}
use Rattle.std.proofs.Common.{rules}
use Rattle.recovery.proofs.keeper.Keeper.hear.Goals as goal

pub returns-in-Message-Time-clause-reading : goal.returns-in-Message-Time-clause-reading
returns-in-Message-Time-clause-reading c = search rules
