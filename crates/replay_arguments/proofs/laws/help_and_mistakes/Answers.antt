use Rattle.replay_arguments.proofs.FaultLemmas.{help_asked, nothing_is_mistaken, unknown_is_mistaken, version_asked}
use Rattle.replay_arguments.proofs.laws.help_and_mistakes.Goals as goal

pub returns-clause-help : goal.returns-clause-help
returns-clause-help c = help_asked

pub returns-clause-nothing : goal.returns-clause-nothing
returns-clause-nothing c = nothing_is_mistaken

pub returns-clause-unknown : goal.returns-clause-unknown
returns-clause-unknown c = unknown_is_mistaken

pub returns-clause-version : goal.returns-clause-version
returns-clause-version c = version_asked
