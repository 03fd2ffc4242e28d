use Rattle.clap.specs.Simple.{with_subcommand}
use Rattle.replay_arguments.specs.Command.{add_app, back_app, instead_app}
use Rattle.replay_arguments.proofs.command.with_edit_subcommands.Goals as goal

pub returns : goal.returns
returns c = λ app is.
    let one = with_subcommand app add_app.top in
    let two = with_subcommand one back_app.top in
    c.with_subcommand.ensures two instead_app (c.with_subcommand-command-2.ensures one back_app (c.with_subcommand-command.ensures app add_app is c.add.ensures) c.back.ensures) c.instead.ensures
