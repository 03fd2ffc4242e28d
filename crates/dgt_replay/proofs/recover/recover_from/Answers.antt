use Rattle.std.proofs.Common.{arith, ◌≡◌, Err, sym, ◌∙◌, ap}
use Rattle.watched_streams.specs.Watch.{inner_of, has_failed}
use Rattle.board_events.specs.Settings.{Setting}
use Rattle.text_subcommands.specs.Streams.{Streams, streams}
use Rattle.dgt_replay.proofs.EndLemmas.{not_both}
use Rattle.dgt_replay.proofs.RecoverLemmas.{recover_broken, recover_done, recover_refused, refused_not_done}
use Rattle.dgt_replay.proofs.recover.recover_from.Goals as goal

pub returns-then-not-flush_unless_failed-clause-recovers : goal.returns-then-not-flush_unless_failed-clause-recovers
returns-then-not-flush_unless_failed-clause-recovers g c =
    let setting : Setting = record { start = c.args.start; first = c.args.options.now.first; rotated = c.args.options.now.rotated } in
    let done = c.recover_stream-done.ensures in
    let s : Streams = streams g.R.Read.remaining g.O.Write.contents g.E.Write.contents c.args.reader.now c.recover_stream-done.new.reader c.args.out.now c.flush_unless_failed.new.out c.args.err.now c.refused.new.err in
    recover_broken setting c.refused.result s (g.O.Write.contents (inner_of c.recover_stream-done.new.out)) (g.E.Write.contents (inner_of c.recover_stream-done.new.err)) (has_failed c.recover_stream-done.new.err) c.refused.ensures.status done.front
    c.flush_unless_failed.ensures.kept (c.flush_unless_failed.ensures.failed c.if-not-flush_unless_failed.true) c.refused.ensures.says
    (λ e. (let same = c.refused.ensures.silent e in (cc, cc))) done.bounded (λ e. done.read (done.reader_blamed e))

pub returns-in-Err-clause-recovers : goal.returns-in-Err-clause-recovers
returns-in-Err-clause-recovers g c =
    let setting : Setting = record { start = c.args.start; first = c.args.options.now.first; rotated = c.args.options.now.rotated } in
    let done = c.recover_stream-done.ensures in
    let s : Streams = streams g.R.Read.remaining g.O.Write.contents g.E.Write.contents c.args.reader.now c.recover_stream-done.new.reader c.args.out.now c.flush_unless_failed.new.out c.args.err.now c.refused-in-Err.new.err in
    let is : c.recover_stream-done.result ≡ Err c.in-Err.error = c.in-Err.is in
    recover_refused c.in-Err.error setting c.refused-in-Err.result s c.line.result.now (g.O.Write.contents (inner_of c.recover_stream-done.new.out)) (g.E.Write.contents (inner_of c.recover_stream-done.new.err)) (has_failed c.recover_stream-done.new.err)
    (c.refused-in-Err.ensures.status ∙ c.status.ensures) c.line.ensures c.refused-in-Err.ensures.says (λ e. (let same = c.refused-in-Err.ensures.silent e in (cc, cc))) c.flush_unless_failed.ensures.kept
    (λ e. done.reading (is ∙ ap Err e)) (λ e. not_both (has_failed c.recover_stream-done.new.out) (done.working (is ∙ ap Err e)) (c.flush_unless_failed.ensures.works c.if-not-flush_unless_failed.false).0) (λ e. done.telling (is ∙ ap Err e))
    (λ e. done.read (is ∙ ap Err e)) (λ e. done.long (is ∙ ap Err e)) (λ e. done.memory (is ∙ ap Err e)) done.front done.bounded
    (λ e. (let same = sym is ∙ done.reader_blamed e in cc))

pub returns-in-Ok-clause-recovers : goal.returns-in-Ok-clause-recovers
returns-in-Ok-clause-recovers g c =
    let setting : Setting = record { start = c.args.start; first = c.args.options.now.first; rotated = c.args.options.now.rotated } in
    let done = c.in-Ok.ensures in
    let s : Streams = streams g.R.Read.remaining g.O.Write.contents g.E.Write.contents c.args.reader.now c.recover_stream-done.new.reader c.args.out.now c.flush_unless_failed.new.out c.args.err.now c.recover_stream-done.new.err in
    recover_done setting s (g.O.Write.contents (inner_of c.recover_stream-done.new.out)) done.ok c.flush_unless_failed.ensures.kept done.bounded done.whole.0

pub returns-in-Ok-clause-status : goal.returns-in-Ok-clause-status
returns-in-Ok-clause-status g c = λ two. absurd (omega arith)

pub returns-in-Err-clause-works : goal.returns-in-Err-clause-works
returns-in-Err-clause-works g c zero = refused_not_done c.in-Err.error c.refused-in-Err.result (c.refused-in-Err.ensures.status ∙ c.status.ensures) zero
