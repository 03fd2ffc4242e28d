use Rattle.clap.specs.Simple.{with_subcommand}
use Rattle.replay_arguments.specs.Command.{check_app, moves_app, positions_app, times_app}
use Rattle.replay_arguments.proofs.command.with_text_subcommands.Goals as goal

pub returns : goal.returns
returns c = λ app is.
    let one = with_subcommand app check_app.top in
    let two = with_subcommand one times_app.top in
    let three = with_subcommand two moves_app.top in
    let s1 = c.with_subcommand-command.ensures app check_app is c.check.ensures in
    let s2 = c.with_subcommand-command-2.ensures one times_app s1 c.times.ensures in
    let s3 = c.with_subcommand-command-3.ensures two moves_app s2 c.moves.ensures in
    c.with_subcommand.ensures three positions_app s3 c.positions.ensures
