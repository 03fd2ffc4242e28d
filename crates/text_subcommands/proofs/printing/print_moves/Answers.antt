use Prim.{search}
use Rattle.std.proofs.Common.{[], append-nil, sym, ◌∙◌, rules}
use Rattle.std.proofs.KnownBytes.{Appends-kept}
use Rattle.watched_streams.proofs.ResultLemmas.{at_err, at_ok}
use Rattle.text_subcommands.proofs.TestLemmas.{true_or}
use Rattle.text_subcommands.proofs.printing.print_moves.Goals as goal

pub returns-then-is_err-clause-fault : goal.returns-then-is_err-clause-fault
returns-then-is_err-clause-fault g c three =
    let failed = sym c.is_err.ensures.value ∙ c.if-is_err.true in
    (at_err _ c.put_moves.result failed c.put_moves.ensures.part, at_err _ c.put_moves.result failed c.put_moves.ensures.failed, c.refused.ensures.says)

pub returns-then-is_err-2-clause-fault : goal.returns-then-is_err-2-clause-fault
returns-then-is_err-2-clause-fault g c three =
    let now = c.args.moves.now in
    let told = at_ok _ c.put_moves.result (sym c.is_err.ensures.value ∙ c.if-is_err.false) c.put_moves.ensures.told in (
      (now, [], told.0, sym (append-nil now), told.1, (told.0, [], sym (append-nil told.0), Appends-kept _ _ _ told.0 told.2 c.flush.ensures.bytes)),
      c.flush.ensures.failed ∙ true_or _ _ (sym c.is_err-2.ensures.value ∙ c.if-is_err-2.true),
      c.refused-then-is_err-2.ensures.says,
    )

pub returns-clause-flushed : goal.returns-clause-flushed
returns-clause-flushed g c = search rules
