use Rattle.std.proofs.Common.{◌∙◌}
use Rattle.board_cable.proofs.Once.{back_after}
use Rattle.board_cable.proofs.cable.Cable.aside.Goals as goal

pub returns : goal.returns
returns c past turns stands h = c.aside.ensures ∙ (back_after c.args.self.now past turns stands h).aside_is
