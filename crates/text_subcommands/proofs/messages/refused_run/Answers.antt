use Prim.{search}
use Rattle.std.proofs.Common.{rules}
use Rattle.text_subcommands.proofs.messages.refused_run.Goals as goal

pub returns-then-is_err-clause-out_blamed : goal.returns-then-is_err-clause-out_blamed
returns-then-is_err-clause-out_blamed g c = search rules

pub returns-clause-flushed : goal.returns-clause-flushed
returns-clause-flushed g c = search rules
