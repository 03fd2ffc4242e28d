use Rattle.std.proofs.Common.{◌≡◌, ◌++◌, ◌∙◌, List, ℕ, ap, subst}
use Rattle.watched_streams.specs.Watch.{inner_of}
use Rattle.watched_streams.specs.Output.{AppendsPart}
use Rattle.dgt_replay.specs.Recorded.{report_line}
use Rattle.text_subcommands.proofs.MessageLemmas.{part_put}
use Rattle.dgt_replay.proofs.record.tell.Goals as goal

pub returns-in-Err-clause-fault : goal.returns-in-Err-clause-fault
returns-in-Err-clause-fault g c three =
    let before = g.E.Write.contents (inner_of c.args.err.now) in
    let after = g.E.Write.contents (inner_of c.put.new.out) in
    let told : AppendsPart before after c.as_slice.result.now = part_put c.put.result before after c.as_slice.result.now c.put.ensures.ok c.put.ensures.fault in
    let line : c.as_slice.result.now ≡ report_line c.args.report.now = c.as_slice.ensures.value ∙ c.add_report.ensures ∙ ap (λ bs. bs ++ report_line c.args.report.now) c.new-lines.ensures in
    let P : List ℕ → Type 0 = λ bs. AppendsPart before after bs in
    (subst P line told, c.in-Err.ensures.failed)
