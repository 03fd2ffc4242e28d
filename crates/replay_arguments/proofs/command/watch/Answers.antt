use Rattle.std.proofs.Common.{codes}
use Rattle.clap.specs.Simple.{new_app}
use Rattle.replay_arguments.proofs.command.watch.Goals as goal

pub returns : goal.returns
returns c = c.with_board.ensures (new_app (codes "watch")) c.named-command.ensures
