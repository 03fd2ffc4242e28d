use Prim.{search}
use Rattle.std.proofs.Common.{rules}
use Rattle.text_subcommands.proofs.playing.position_named.Goals as goal

pub returns-in-Ok-clause-named : goal.returns-in-Ok-clause-named
returns-in-Ok-clause-named c = search rules

pub returns-in-Err-clause-named : goal.returns-in-Err-clause-named
returns-in-Err-clause-named c = search rules
