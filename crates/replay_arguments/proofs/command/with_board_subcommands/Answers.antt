use Rattle.clap.specs.Simple.{with_subcommand}
use Rattle.replay_arguments.specs.Command.{follow_app, pictures_app, record_app, recover_app, show_app, watch_app}
use Rattle.replay_arguments.proofs.command.with_board_subcommands.Goals as goal

pub returns : goal.returns
returns c = λ app is.
    let one = with_subcommand app show_app.top in
    let two = with_subcommand one pictures_app.top in
    let three = with_subcommand two record_app.top in
    let four = with_subcommand three follow_app.top in
    let s1 = c.with_subcommand-command.ensures app show_app is c.show.ensures in
    let s2 = c.with_subcommand-command-2.ensures one pictures_app s1 c.pictures.ensures in
    let s3 = c.with_subcommand-command-3.ensures two record_app s2 c.record.ensures in
    let s4 = c.with_subcommand-command-4.ensures three follow_app s3 c.follow.ensures in
    let five = with_subcommand four watch_app.top in
    let s5 = c.with_subcommand-command-5.ensures four watch_app s4 c.watch.ensures in
    c.with_subcommand.ensures five recover_app s5 c.recover.ensures
