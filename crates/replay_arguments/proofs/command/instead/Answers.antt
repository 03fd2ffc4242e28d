use Rattle.std.proofs.Common.{codes}
use Rattle.clap.specs.Simple.{new_app}
use Rattle.replay_arguments.proofs.command.instead.Goals as goal

pub returns : goal.returns
returns c = c.with_edit.ensures (new_app (codes "instead")) c.named-command.ensures
