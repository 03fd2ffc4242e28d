use Rattle.recovery.proofs.PassLemmas.{stands_start}
use Rattle.recovery.proofs.passer.begin.Goals as goal

pub returns : goal.returns
returns c = λ setting decoded keeps. stands_start c.args.decoder.now c.args.keeper.now setting decoded keeps
