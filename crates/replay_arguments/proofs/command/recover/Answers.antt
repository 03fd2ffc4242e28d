use Rattle.std.proofs.Common.{codes}
use Rattle.clap.specs.Simple.{new_app}
use Rattle.replay_arguments.proofs.command.recover.Goals as goal

pub returns : goal.returns
returns c = c.with_board.ensures (new_app (codes "recover")) c.named-command.ensures
