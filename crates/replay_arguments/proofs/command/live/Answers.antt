use Rattle.std.proofs.Common.{codes}
use Rattle.clap.specs.Simple.{new_app, with_rule}
use Rattle.replay_arguments.specs.Command.{recover_rule, with_board}
use Rattle.replay_arguments.proofs.command.live.Goals as goal

pub returns : goal.returns
returns c =
    let plain = new_app (codes "live") in
    c.with_tags.ensures (with_rule (with_board plain) recover_rule)
    (c.with_recover-command.ensures (with_board plain) (c.with_board.ensures plain c.named-command.ensures))
