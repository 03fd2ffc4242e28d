use Rattle.std.proofs.Common.{codes}
use Rattle.clap.specs.Simple.{new_app}
use Rattle.replay_arguments.proofs.command.moves.Goals as goal

pub returns : goal.returns
returns c = c.with_text.ensures (new_app (codes "moves")) c.named-command.ensures
