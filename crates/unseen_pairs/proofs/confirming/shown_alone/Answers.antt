use Rattle.std.proofs.Common.{[]}
use Rattle.unseen_pairs.proofs.Sequels.{alone_result}
use Rattle.unseen_pairs.proofs.confirming.shown_alone.Goals as goal

pub returns : goal.returns
returns c = alone_result c.args.p.now c.args.picture.now c.see.result (c.see.ensures.answer c.args.p.now [] c.new-settler.ensures)
