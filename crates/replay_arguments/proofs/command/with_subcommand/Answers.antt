use Rattle.replay_arguments.proofs.CommandLemmas.{subcommand_added}
use Rattle.replay_arguments.proofs.command.with_subcommand.Goals as goal

pub returns : goal.returns
returns c =
    subcommand_added c.args.command c.args.subcommand c.in_ok-command.command c.in_ok-subcommand.field-0 c.subcommand.result c.in_ok-command.was c.in_ok-subcommand.was c.subcommand.ensures
