use Rattle.clap.specs.Simple.{with_rule}
use Rattle.replay_arguments.specs.Command.{recover_rule, with_board}
use Rattle.replay_arguments.proofs.command.with_edit.Goals as goal

pub returns : goal.returns
returns c app is =
    let board = with_board app in
    c.with_text.ensures (with_rule board recover_rule) (c.with_recover-command.ensures board (c.with_board-command.ensures app is))
