use Rattle.std.proofs.Common.{◌∙◌, ap, Err, inr, rules, subst, sym}
use Rattle.watched_streams.specs.Watch.{has_failed, inner_of}
use Rattle.text_subcommands.specs.Messages.{Says}
use Rattle.text_subcommands.specs.Streams.{Streams, streams}
use Rattle.dgt_replay.specs.Recorded.{EndsFor}
use Rattle.dgt_replay.proofs.RecordedLemmas.{given_up_long, given_up_for_fault, given_up_for_memory, out_failed_three, status_known}
use Rattle.dgt_replay.proofs.record.record_as.Goals as goal

pub returns-in-Ok-clause-fails : goal.returns-in-Ok-clause-fails
returns-in-Ok-clause-fails g c three =
    let fault = c.tell.ensures.fault three in
    inr (inr (fault.1, inr (c.in-Ok.report, g.E.Write.contents (inner_of c.record.new.board), search rules, fault.0)))

pub returns-in-Err-clause-all : goal.returns-in-Err-clause-all
returns-in-Err-clause-all g c zero = absurd ((status_known c.in-Err.error c.refused.result (c.refused.ensures.status ∙ c.status_of.ensures)).0 zero)

pub returns-in-Err-clause-works : goal.returns-in-Err-clause-works
returns-in-Err-clause-works g c zero = absurd ((status_known c.in-Err.error c.refused.result (c.refused.ensures.status ∙ c.status_of.ensures)).0 zero)

pub returns-in-Err-clause-status : goal.returns-in-Err-clause-status
returns-in-Err-clause-status g c = (status_known c.in-Err.error c.refused.result (c.refused.ensures.status ∙ c.status_of.ensures)).1

pub returns-in-Err-clause-known : goal.returns-in-Err-clause-known
returns-in-Err-clause-known g c = (status_known c.in-Err.error c.refused.result (c.refused.ensures.status ∙ c.status_of.ensures)).2

pub returns-in-Err-clause-long : goal.returns-in-Err-clause-long
returns-in-Err-clause-long g c one =
    let is = c.refused.ensures.status ∙ c.status_of.ensures in
    let s : Streams = streams g.R.Read.remaining g.O.Write.contents g.E.Write.contents c.args.reader.now c.record.new.reader c.args.out.now c.record.new.out c.args.err.now c.refused.new.err in
    let asked = g.E.Write.contents (inner_of c.record.new.board) in
    let says = subst (Says asked s.said' s.err_failed) c.line_of.ensures c.refused.ensures.says in
    let ends : EndsFor c.in-Err.error c.args.setup s = (asked, c.in-Err.ensures.leaves, says) in
    given_up_long c.in-Err.error c.refused.result c.args.setup s is ends one

pub returns-in-Err-clause-memory : goal.returns-in-Err-clause-memory
returns-in-Err-clause-memory g c four =
    let is = c.refused.ensures.status ∙ c.status_of.ensures in
    let s : Streams = streams g.R.Read.remaining g.O.Write.contents g.E.Write.contents c.args.reader.now c.record.new.reader c.args.out.now c.record.new.out c.args.err.now c.refused.new.err in
    let asked = g.E.Write.contents (inner_of c.record.new.board) in
    let says = subst (Says asked s.said' s.err_failed) c.line_of.ensures c.refused.ensures.says in
    let ends : EndsFor c.in-Err.error c.args.setup s = (asked, c.in-Err.ensures.leaves, says) in
    given_up_for_memory c.in-Err.error c.refused.result c.args.setup s is ends four

pub returns-in-Err-clause-fails : goal.returns-in-Err-clause-fails
returns-in-Err-clause-fails g c three =
    let is = c.refused.ensures.status ∙ c.status_of.ensures in
    let s : Streams = streams g.R.Read.remaining g.O.Write.contents g.E.Write.contents c.args.reader.now c.record.new.reader c.args.out.now c.record.new.out c.args.err.now c.refused.new.err in
    let asked = g.E.Write.contents (inner_of c.record.new.board) in
    let says = subst (Says asked s.said' s.err_failed) c.line_of.ensures c.refused.ensures.says in
    let ends : EndsFor c.in-Err.error c.args.setup s = (asked, c.in-Err.ensures.leaves, says) in
    given_up_for_fault c.in-Err.error c.refused.result c.args.setup s is ends (λ e. c.record.ensures.read (c.in-Err.is ∙ ap Err e))
    (λ e. (let failed = c.record.ensures.board (c.in-Err.is ∙ ap Err e) in ap has_failed (c.refused.ensures.silent failed) ∙ failed))
    (λ e. c.record.ensures.write (c.in-Err.is ∙ ap Err e)) three

pub returns-in-Err-clause-out_blamed : goal.returns-in-Err-clause-out_blamed
returns-in-Err-clause-out_blamed g c failed =
    out_failed_three c.in-Err.error c.refused.result (has_failed c.record.new.out) (c.refused.ensures.status ∙ c.status_of.ensures)
    (λ other. c.record.ensures.written (λ write. (other (let same = sym c.in-Err.is ∙ write in cc)))) failed
