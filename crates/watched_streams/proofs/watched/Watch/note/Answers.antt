use Prim.{search}
use Rattle.std.proofs.Common.{rules}
use Rattle.watched_streams.proofs.watched.Watch.note.Goals as goal

pub returns-clause-failed : goal.returns-clause-failed
returns-clause-failed g c = search rules
