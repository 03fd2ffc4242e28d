use Rattle.settle_core.proofs.Changing.{cleared_is, set_is}
use Rattle.settle_core.proofs.compared.changed.Goals as goal

pub returns-then-picture-at : goal.returns-then-picture-at
returns-then-picture-at c old n h = cleared_is c.args.mask c.args.at c.args.code c.args.picture.now old c.requires n c.if-picture-at.true h

pub returns-else-picture-at : goal.returns-else-picture-at
returns-else-picture-at c old n h = set_is c.args.mask c.args.at c.args.code c.args.picture.now old c.requires n c.if-picture-at.false h
