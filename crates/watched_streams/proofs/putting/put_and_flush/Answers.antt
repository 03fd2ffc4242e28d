use Prim.{search}
use Rattle.std.proofs.Common.{sym, ◌∙◌, rules}
use Rattle.watched_streams.proofs.OutputLemmas.{part_put}
use Rattle.watched_streams.proofs.putting.put_and_flush.Goals as goal

pub returns-then-is_err-clause-part : goal.returns-then-is_err-clause-part
returns-then-is_err-clause-part g c = part_put _ _ c.args.bytes.now c.put.result (sym c.is_err.ensures.value ∙ c.if-is_err.true) c.put.ensures.fault

pub returns-clause-flushed : goal.returns-clause-flushed
returns-clause-flushed g c = search rules

pub returns-clause-done : goal.returns-clause-done
returns-clause-done g c = search rules
