use Rattle.std.proofs.Common.{take}
use Rattle.text_subcommands.proofs.PlayedLemmas.{NoBlank}
use Rattle.text_subcommands.proofs.playing.first_part.Given as goal

abbrev pub invariant-loop-i : goal.invariant-loop-i
invariant-loop-i l = NoBlank (take l.i l.text)
