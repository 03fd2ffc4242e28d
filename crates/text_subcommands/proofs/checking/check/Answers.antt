use Prim.{search}
use Rattle.std.proofs.Common.{rules}
use Rattle.watched_streams.specs.Watch.{inner_of}
use Rattle.text_subcommands.proofs.CheckLemmas.{told_part, told_whole}
use Rattle.text_subcommands.proofs.checking.check.Goals as goal

pub returns-in-Ok-clause-passes : goal.returns-in-Ok-clause-passes
returns-in-Ok-clause-passes g c = λ done.
    told_whole (g.R.Read.remaining (inner_of c.args.reader.now)) (g.O.Write.contents (inner_of c.args.out.now)) (g.O.Write.contents (inner_of c.put_summary.new.out))
    c.in-Ok.game c.in-Ok.ensures.game (c.put_summary.ensures.done done).0

pub returns-in-Ok-clause-fault : goal.returns-in-Ok-clause-fault
returns-in-Ok-clause-fault g c = λ failed.
    told_part (g.R.Read.remaining (inner_of c.args.reader.now)) (g.O.Write.contents (inner_of c.args.out.now)) (g.O.Write.contents (inner_of c.put_summary.new.out))
    c.in-Ok.game c.in-Ok.ensures.game (c.put_summary.ensures.fault failed).0

pub returns-in-Err-clause-passes : goal.returns-in-Err-clause-passes
returns-in-Err-clause-passes g c = search rules

pub returns-in-Err-clause-fault : goal.returns-in-Err-clause-fault
returns-in-Err-clause-fault g c = search rules

pub returns-in-Err-clause-unread : goal.returns-in-Err-clause-unread
returns-in-Err-clause-unread g c = search rules

pub returns-in-Err-clause-silent : goal.returns-in-Err-clause-silent
returns-in-Err-clause-silent g c = search rules

pub returns-in-Err-clause-out_blamed : goal.returns-in-Err-clause-out_blamed
returns-in-Err-clause-out_blamed g c = search rules

pub returns-in-Err-clause-flushed : goal.returns-in-Err-clause-flushed
returns-in-Err-clause-flushed g c = search rules

pub returns-in-Err-clause-tells : goal.returns-in-Err-clause-tells
returns-in-Err-clause-tells g c = search rules
