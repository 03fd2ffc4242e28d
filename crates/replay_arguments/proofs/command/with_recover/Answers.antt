use Rattle.replay_arguments.specs.Command.{recover_rule}
use Rattle.replay_arguments.proofs.CommandLemmas.{flag_made, rule_added}
use Rattle.replay_arguments.proofs.command.with_recover.Goals as goal

pub returns : goal.returns
returns c =
    let made = flag_made c.new.result c.long.result c.action.result c.help-recover.result _ _ (c.new.ensures.rule, c.new.ensures.optional.1) c.long.ensures c.action.ensures c.help-recover.ensures in
    rule_added c.args.command c.in_ok-command.command c.help-recover.result recover_rule c.arg.result c.in_ok-command.was made c.arg.ensures
