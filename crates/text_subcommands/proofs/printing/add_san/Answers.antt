use Rattle.std.proofs.Common.{rules}
use Rattle.text_subcommands.proofs.printing.add_san.Goals as goal

pub returns : goal.returns
returns c = search rules
