use Rattle.std.proofs.Common.{codes}
use Rattle.clap.specs.Simple.{new_app}
use Rattle.replay_arguments.specs.Command.{with_board}
use Rattle.replay_arguments.proofs.command.record.Goals as goal

pub returns : goal.returns
returns c =
    let plain = new_app (codes "record") in
    c.with_tags.ensures (with_board plain) (c.with_board.ensures plain c.named-command.ensures)
