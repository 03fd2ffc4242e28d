use Rattle.settle_core.proofs.Changing.{cleared_is, set_is}
use Rattle.board_game.proofs.pictures.changed.Goals as goal

pub returns-then-picture-square : goal.returns-then-picture-square
returns-then-picture-square c seen n h = cleared_is c.args.mask c.args.square c.args.code c.args.picture.now seen c.requires n c.if-picture-square.true h

pub returns-else-picture-square : goal.returns-else-picture-square
returns-else-picture-square c seen n h = set_is c.args.mask c.args.square c.args.code c.args.picture.now seen c.requires n c.if-picture-square.false h
