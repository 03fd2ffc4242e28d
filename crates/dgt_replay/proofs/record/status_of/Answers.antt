use Prim.{search}
use Rattle.std.proofs.Common.{rules}
use Rattle.dgt_replay.proofs.record.status_of.Goals as goal

pub returns-in-Memory : goal.returns-in-Memory
returns-in-Memory c = search rules

pub returns-in-Read : goal.returns-in-Read
returns-in-Read c = search rules
