use Rattle.std.proofs.Common.{codes}
use Rattle.clap.specs.Simple.{new_app}
use Rattle.replay_arguments.proofs.command.positions.Goals as goal

pub returns : goal.returns
returns c = c.with_text.ensures (new_app (codes "positions")) c.named-command.ensures
