use Rattle.std.proofs.Common.{codes, rules}
use Rattle.clap.specs.Simple.{App, new_app, with_subcommand}
use Rattle.replay_arguments.specs.Command.{IsApp, live_app, replay, with_board_subcommands, with_edit_subcommands, with_version}
use Rattle.replay_arguments.proofs.CommandLemmas.{app_made}
use Rattle.replay_arguments.proofs.command.command.Goals as goal

pub returns : goal.returns
returns c =
    let top : App = with_version (new_app (codes "dgt_replay")) in
    let base : IsApp c.subcommand_required-command.result top = record { app_is = search rules; local = search rules } in
    let edits = with_edit_subcommands (with_board_subcommands top) in
    let made = c.with_edit_subcommands-command.ensures (with_board_subcommands top) (c.with_board_subcommands-command.ensures top base) in
    app_made c.with_text_subcommands.result replay (c.with_text_subcommands.ensures (with_subcommand edits live_app.top)
    (c.with_subcommand.ensures edits live_app made c.live.ensures))
