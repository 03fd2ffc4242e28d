use Rattle.std.proofs.Common.{sym, ap, ◌∙◌}
use Rattle.settle_core.specs.Settler.{position_of}
use Rattle.settle_core.proofs.Lists.{position_in_order}
use Rattle.settle_core.proofs.settler.Settler.position.Goals as goal

pub returns-clause-in_order : goal.returns-clause-in_order
returns-clause-in_order c =
    c.self.invariant.position ∙ ap position_of c.self.view_is ∙ sym (position_in_order c.args.self.now.start c.args.self.now.score.plies)
