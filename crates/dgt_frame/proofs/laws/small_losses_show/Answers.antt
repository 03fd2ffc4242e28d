use Rattle.dgt_frame.proofs.LossLemmas.{small_losses_show}
use Rattle.dgt_frame.proofs.laws.small_losses_show.Goals as goal

pub returns : goal.returns
returns c = small_losses_show
