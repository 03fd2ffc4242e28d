use Rattle.std.proofs.Common.{sym, ◌∙◌}
use Rattle.std.proofs.KnownBytes.{Appends-trans, Keeps-refl}
use Rattle.watched_streams.proofs.ResultLemmas.{at_ok}
use Rattle.watched_streams.proofs.OutputLemmas.{part_behind, part_put}
use Rattle.recovery.proofs.GiveLemmas.{part_longer}
use Rattle.recovery.proofs.stream.put_pair.Goals as goal

pub returns-then-not-put_and_flush-clause-part : goal.returns-then-not-put_and_flush-clause-part
returns-then-not-put_and_flush-clause-part g c = (Keeps-refl _, rw c.as_slice.ensures.value at c.put_and_flush.ensures.part)

pub returns-then-unsent-clause-part : goal.returns-then-unsent-clause-part
returns-then-unsent-clause-part g c = (
  part_longer _ _ c.args.waiting.now c.args.frames.now.items (part_put _ _ c.args.waiting.now c.put.result (sym c.is_err-unsent.ensures.value ∙ c.if-unsent.true) c.put.ensures.fault),
  rw c.as_slice.ensures.value at (c.put_and_flush.ensures.done c.if-not-put_and_flush.false).0,
)

pub returns-then-unframed-clause-part : goal.returns-then-unframed-clause-part
returns-then-unframed-clause-part g c = (
  part_behind _ _ _ c.args.waiting.now c.args.frames.now.items (at_ok _ c.put.result (sym c.is_err-unsent.ensures.value ∙ c.if-unsent.false) c.put.ensures.ok)
      (part_put _ _ c.args.frames.now.items c.put-2.result (sym c.is_err-unframed.ensures.value ∙ c.if-unframed.true) (rw c.as_slice-2.ensures.value at c.put-2.ensures.fault)),
  rw c.as_slice.ensures.value at (c.put_and_flush.ensures.done c.if-not-put_and_flush.false).0,
)

pub returns-clause-written : goal.returns-clause-written
returns-clause-written g c =
    Appends-trans _ _ _ c.args.waiting.now c.args.frames.now.items (at_ok _ c.put.result (sym c.is_err-unsent.ensures.value ∙ c.if-unsent.false) c.put.ensures.ok)
    (rw c.as_slice-2.ensures.value at (at_ok _ c.put-2.result (sym c.is_err-unframed.ensures.value ∙ c.if-unframed.false) c.put-2.ensures.ok))
