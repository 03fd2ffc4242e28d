use Rattle.std.proofs.Common.{◌∙◌}
use Rattle.std.proofs.KnownBytes.{Keeps-refl}
use Rattle.text_subcommands.specs.Streams.{Streams, streams}
use Rattle.watched_streams.specs.Watch.{inner_of}
use Rattle.dgt_replay.proofs.LiveLemmas.{attend_done, attend_refused, refused_not_done}
use Rattle.dgt_replay.proofs.live.live_from.Goals as goal

pub returns-in-Ok-clause-attends : goal.returns-in-Ok-clause-attends
returns-in-Ok-clause-attends g c =
    let s : Streams = streams g.R.Read.remaining g.O.Write.contents g.E.Write.contents c.args.reader.now c.attend.new.reader c.args.out.now c.attend.new.out c.args.err.now c.args.err.now in
    attend_done c.args.setup c.args.recovers s c.in-Ok.ensures.ok (Keeps-refl (g.E.Write.contents (inner_of c.args.err.now)))

pub returns-in-Err-clause-attends : goal.returns-in-Err-clause-attends
returns-in-Err-clause-attends g c =
    let s : Streams = streams g.R.Read.remaining g.O.Write.contents g.E.Write.contents c.args.reader.now c.attend.new.reader c.args.out.now c.attend.new.out c.args.err.now c.refused.new.err in
    attend_refused c.in-Err.error c.args.setup c.args.recovers c.refused.result s c.line.result.now
    (c.refused.ensures.status ∙ c.status.ensures) c.line.ensures c.refused.ensures.says c.in-Err.ensures.ends c.in-Err.ensures.blamed.0 c.in-Err.ensures.blamed.1

pub returns-in-Err-clause-works : goal.returns-in-Err-clause-works
returns-in-Err-clause-works g c zero = refused_not_done c.in-Err.error c.refused.result (c.refused.ensures.status ∙ c.status.ensures) zero
