use Rattle.std.proofs.Common.{ap, ◌∙◌}
use Rattle.clap.specs.Simple.{app_of_fields}
use Rattle.clap.specs.declared.builder.command.Command.TheOpen.{Command-F}
use Rattle.clap.specs.declared.builder.command.Command.{Command}
use Rattle.replay_arguments.proofs.command.named.Goals as goal

pub returns : goal.returns
returns c = record {
  app_is = ap app_of_fields c.about.ensures ∙ c.new.ensures.app;
  local = ap (λ (fields : Command-F Command). fields.has_globals) c.about.ensures ∙ c.new.ensures.local;
}
