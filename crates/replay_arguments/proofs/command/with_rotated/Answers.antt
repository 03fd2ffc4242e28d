use Rattle.replay_arguments.specs.Command.{rotated_rule}
use Rattle.replay_arguments.proofs.CommandLemmas.{flag_made, rule_added}
use Rattle.replay_arguments.proofs.command.with_rotated.Goals as goal

pub returns : goal.returns
returns c =
    let made = flag_made c.new.result c.long.result c.action.result c.help-rotated.result _ _ (c.new.ensures.rule, c.new.ensures.optional.1) c.long.ensures c.action.ensures c.help-rotated.ensures in
    rule_added c.args.command c.in_ok-command.command c.help-rotated.result rotated_rule c.arg.result c.in_ok-command.was made c.arg.ensures
