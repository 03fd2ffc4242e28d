use Rattle.replay_arguments.specs.Command.{text_rule}
use Rattle.replay_arguments.proofs.CommandLemmas.{option_made, rule_added}
use Rattle.replay_arguments.proofs.command.with_text.Goals as goal

pub returns : goal.returns
returns c =
    let made = option_made c.new.result c.long.result c.value_name.result c.help-text.result c.args.name c.args.value c.args.help (c.new.ensures.rule, c.new.ensures.optional.1)
    c.long.ensures c.value_name.ensures c.help-text.ensures in
    rule_added c.args.command c.in_ok-command.command c.help-text.result (text_rule c.args.name.now) c.arg.result c.in_ok-command.was made c.arg.ensures
