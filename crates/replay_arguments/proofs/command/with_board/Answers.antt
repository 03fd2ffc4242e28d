use Rattle.std.proofs.Common.{codes}
use Rattle.clap.specs.Simple.{with_rule}
use Rattle.replay_arguments.specs.Command.{rotated_rule, with_text}
use Rattle.replay_arguments.proofs.command.with_board.Goals as goal

pub returns : goal.returns
returns c app is =
    let rotated = with_rule app rotated_rule in
    c.with_text.ensures (with_text rotated (codes "first")) (c.with_text-command.ensures rotated (c.with_rotated-command.ensures app is))
