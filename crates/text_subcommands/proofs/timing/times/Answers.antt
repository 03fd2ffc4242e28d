use Rattle.watched_streams.specs.Watch.{inner_of}
use Rattle.text_subcommands.proofs.TimesLemmas.{listed_part, listed_whole}
use Rattle.text_subcommands.proofs.timing.times.Goals as goal

pub returns-in-Ok-clause-passes : goal.returns-in-Ok-clause-passes
returns-in-Ok-clause-passes g c = λ done.
    let listed = c.in-Ok.ensures.listed in
    listed_whole (g.R.Read.remaining (inner_of c.args.reader.now)) (g.O.Write.contents (inner_of c.args.out.now)) (g.O.Write.contents (inner_of c.put_answer.new.out))
    listed.0 c.in-Ok.text.items c.as_slice.result.now listed.1 c.as_slice.ensures.value listed.2 (c.put_answer.ensures.done done).0

pub returns-in-Ok-clause-fault : goal.returns-in-Ok-clause-fault
returns-in-Ok-clause-fault g c = λ failed.
    let listed = c.in-Ok.ensures.listed in
    listed_part (g.R.Read.remaining (inner_of c.args.reader.now)) (g.O.Write.contents (inner_of c.args.out.now)) (g.O.Write.contents (inner_of c.put_answer.new.out))
    listed.0 c.in-Ok.text.items c.as_slice.result.now listed.1 c.as_slice.ensures.value listed.2 (c.put_answer.ensures.fault failed).0
