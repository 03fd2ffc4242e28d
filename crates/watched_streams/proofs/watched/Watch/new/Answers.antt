use Prim.{search}
use Rattle.std.proofs.Common.{rules}
use Rattle.watched_streams.proofs.watched.Watch.new.Goals as goal

pub returns-clause-failed : goal.returns-clause-failed
returns-clause-failed g c = search rules

pub returns-clause-flushed : goal.returns-clause-flushed
returns-clause-flushed g c = search rules
