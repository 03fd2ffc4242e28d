use Rattle.std.proofs.Common.{refl}
use Rattle.text_subcommands.proofs.messages.message_of.Goals as goal

pub returns-in-Kings : goal.returns-in-Kings
returns-in-Kings c = rw c.in-Kings.is refl
