use Rattle.settle_core.specs.Entries.{entry_of}
use Rattle.std.proofs.Common.{subst}
use Rattle.unseen_pairs.specs.Inside.Telling.{HasTold}
use Rattle.unseen_pairs.proofs.recoverer.Recoverer.wait_among.Goals as goal

pub returns-in-Shown : goal.returns-in-Shown
returns-in-Shown c = λ start past written w.
    subst (HasTold c.wait.new.self start past written (entry_of c.args.picture.now c.args.clock.now)) c.in-Shown.is (c.in_ok-seen.ensures start past written w)

pub returns-in-Recovered : goal.returns-in-Recovered
returns-in-Recovered c = λ start past written w.
    subst (HasTold c.wait.new.self start past written (entry_of c.args.picture.now c.args.clock.now)) c.in-Recovered.is (c.in_ok-seen.ensures start past written w)
