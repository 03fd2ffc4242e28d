use Rattle.recovery.proofs.PassLemmas.{recovers}
use Rattle.recovery.proofs.passer.conclude.Goals as goal

pub returns : goal.returns
returns c = λ setting bytes woven text s.
    recovers c.args.decoder.now c.args.keeper.now setting bytes woven text c.pending.result c.pending.ensures s
