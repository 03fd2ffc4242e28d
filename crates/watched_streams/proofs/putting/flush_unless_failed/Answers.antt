use Prim.{search}
use Rattle.std.proofs.Common.{rules}
use Rattle.watched_streams.proofs.putting.flush_unless_failed.Goals as goal

pub returns-clause-works : goal.returns-clause-works
returns-clause-works g c = search rules
