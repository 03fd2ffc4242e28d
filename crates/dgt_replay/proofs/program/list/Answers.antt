use Rattle.std.proofs.Common.{arith, ◌≡◌, rules, Err, inr, sym, ◌∙◌, ap}
use Rattle.watched_streams.specs.Watch.{inner_of, has_failed}
use Rattle.board_listing.specs.declared.stream.ListError.TheVariants.{Read, Write}
use Rattle.dgt_replay.proofs.EndLemmas.{ends_done, ends_in_fault, ends_refused, front_kept, not_both, read_kept, refused_not_done, tells_refused_listing}
use Rattle.dgt_replay.proofs.program.list.Goals as goal

pub returns-then-not-flush_unless_failed-clause-lists : goal.returns-then-not-flush_unless_failed-clause-lists
returns-then-not-flush_unless_failed-clause-lists g c =
    let input = g.R.Read.remaining (inner_of c.args.reader.now) in
    let left = g.R.Read.remaining (inner_of c.list_stream-done.new.reader) in
    let written = g.O.Write.contents (inner_of c.args.out.now) in
    let so_far = g.O.Write.contents (inner_of c.list_stream-done.new.out) in
    let after = g.O.Write.contents (inner_of c.flush_unless_failed.new.out) in
    let ended = ends_in_fault c.args.listing c.refused.result input left written after (has_failed c.list_stream-done.new.reader) (has_failed c.flush_unless_failed.new.out) c.refused.ensures.status c.list_stream-done.ensures.bounded
    (inr (c.flush_unless_failed.ensures.failed c.if-not-flush_unless_failed.true, front_kept c.args.listing input left written so_far after c.list_stream-done.ensures.front c.flush_unless_failed.ensures.kept))
    (λ e. read_kept c.args.listing input left written so_far after (c.list_stream-done.ensures.read (c.list_stream-done.ensures.reader_blamed e).0) c.flush_unless_failed.ensures.kept) in
    record { ends = ended; tells = search rules }

pub returns-in-Err-clause-lists : goal.returns-in-Err-clause-lists
returns-in-Err-clause-lists g c =
    let done = c.list_stream-done.ensures in
    let is : c.list_stream-done.result ≡ Err c.in-Err.error = c.in-Err.is in
    let status = c.refused-in-Err.ensures.status ∙ c.status.ensures in
    let reading = λ (e : c.in-Err.error ≡ Read). done.reading (is ∙ ap Err e) in
    let working = λ (e : c.in-Err.error ≡ Write). not_both (has_failed c.list_stream-done.new.out) (done.working (is ∙ ap Err e)) (c.flush_unless_failed.ensures.works c.if-not-flush_unless_failed.false).0 in
    record {
      ends = ends_refused c.args.listing c.in-Err.error c.refused-in-Err.result (g.R.Read.remaining (inner_of c.args.reader.now)) (g.R.Read.remaining (inner_of c.list_stream-done.new.reader))
          (g.O.Write.contents (inner_of c.args.out.now)) (g.O.Write.contents (inner_of c.list_stream-done.new.out)) (g.O.Write.contents (inner_of c.flush_unless_failed.new.out))
          (has_failed c.list_stream-done.new.reader) (has_failed c.flush_unless_failed.new.out) status reading working (λ e. done.read (is ∙ ap Err e)) done.front (λ e. done.long (is ∙ ap Err e))
          (λ e. done.memory (is ∙ ap Err e)) done.bounded c.flush_unless_failed.ensures.kept
          (λ e. (let same = sym is ∙ (done.reader_blamed e).0 in cc));
      tells = tells_refused_listing c.in-Err.error c.refused-in-Err.result _ _ _ _ _ _ status c.line.ensures c.refused-in-Err.ensures.says reading working;
    }

pub returns-in-Ok-clause-lists : goal.returns-in-Ok-clause-lists
returns-in-Ok-clause-lists g c =
    let done = c.in-Ok.ensures in
    let ended = ends_done c.args.listing (g.R.Read.remaining (inner_of c.args.reader.now)) (g.R.Read.remaining (inner_of c.list_stream-done.new.reader))
    (g.O.Write.contents (inner_of c.args.out.now)) (g.O.Write.contents (inner_of c.list_stream-done.new.out)) (g.O.Write.contents (inner_of c.flush_unless_failed.new.out))
    (has_failed c.list_stream-done.new.reader) (has_failed c.flush_unless_failed.new.out) done.ok c.flush_unless_failed.ensures.kept done.bounded done.whole.0 (search rules) in
    record { ends = ended; tells = search rules }

pub returns-in-Ok-clause-status : goal.returns-in-Ok-clause-status
returns-in-Ok-clause-status g c = λ two. absurd (omega arith)

pub returns-in-Err-clause-works : goal.returns-in-Err-clause-works
returns-in-Err-clause-works g c zero = refused_not_done c.in-Err.error c.refused-in-Err.result (c.refused-in-Err.ensures.status ∙ c.status.ensures) zero
