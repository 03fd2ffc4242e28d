use Prim.{search}
use Rattle.std.proofs.Common.{rules}
use Rattle.recovery.proofs.stream.send.Goals as goal

pub returns-then-not-put_and_flush-clause-flushed : goal.returns-then-not-put_and_flush-clause-flushed
returns-then-not-put_and_flush-clause-flushed g c = search rules

pub returns-clause-flushed : goal.returns-clause-flushed
returns-clause-flushed g c = search rules
