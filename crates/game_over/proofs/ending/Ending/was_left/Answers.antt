use Rattle.std.proofs.Common.{Option, ℕ, ap, ◌∙◌}
use Rattle.square_runs.specs.Lasting.{has_lasted}
use Rattle.game_over.specs.Over.{hour, was_left}
use Rattle.game_over.proofs.ending.Ending.was_left.Goals as goal

pub returns : goal.returns
unfolding was_left
returns c past h = c.lasted.ensures ∙ ap (λ (since : Option ℕ). has_lasted hour c.args.now since) h.left
