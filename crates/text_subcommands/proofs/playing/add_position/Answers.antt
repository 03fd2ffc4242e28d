use Prim.{search}
use Rattle.std.proofs.Common.{rules}
use Rattle.text_subcommands.proofs.playing.add_position.Goals as goal

pub returns : goal.returns
returns c = search rules
