use Rattle.watched_streams.specs.Watch.{inner_of, has_failed}
use Rattle.text_subcommands.proofs.MessageLemmas.{says_put}
use Rattle.text_subcommands.proofs.messages.refused.Goals as goal

pub returns-then-not-failed-clause-says : goal.returns-then-not-failed-clause-says
returns-then-not-failed-clause-says g c =
    says_put c.put.result (g.E.Write.contents (inner_of c.args.err.now)) (g.E.Write.contents (inner_of c.put.new.out)) (has_failed c.put.new.out) c.args.message.now
    c.put.ensures.ok c.put.ensures.fault c.put.ensures.failed
