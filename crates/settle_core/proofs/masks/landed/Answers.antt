use Rattle.settle_core.proofs.Visiting.{is_landed}
use Rattle.settle_core.proofs.masks.landed.Goals as goal

pub returns : goal.returns
returns c before after differ shown = is_landed c.args.mask c.args.shown before after differ shown
