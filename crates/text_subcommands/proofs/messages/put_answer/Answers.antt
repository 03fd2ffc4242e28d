use Prim.{search}
use Rattle.std.proofs.Common.{rules}
use Rattle.text_subcommands.proofs.messages.put_answer.Goals as goal

pub returns-then-put_and_flush-clause-flushed : goal.returns-then-put_and_flush-clause-flushed
returns-then-put_and_flush-clause-flushed g c = search rules
