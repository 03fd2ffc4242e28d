use Prim.{search}
use Rattle.std.proofs.Common.{rules}
use Rattle.watched_streams.proofs.watched.Watch.unflushed.Goals as goal

pub returns : goal.returns
returns g c = search rules
