use Rattle.std.proofs.Common.{codes}
use Rattle.clap.specs.Simple.{new_app}
use Rattle.replay_arguments.proofs.command.pictures.Goals as goal

pub returns : goal.returns
returns c = c.with_rotated.ensures (new_app (codes "pictures")) c.named-command.ensures
