use Rattle.std.proofs.Common.{◌+◌, ◌≤◌, length}
use Rattle.text_subcommands.specs.Words.{words}
use Rattle.text_subcommands.proofs.PlayedLemmas.{PlaysSoFar}
use Rattle.text_subcommands.proofs.playing.play_words.Given as goal

abbrev pub invariant-parts : goal.invariant-parts
invariant-parts l = record {
  so : PlaysSoFar l.fn.start l.fn.lines.items (words l.text) (words l.left) l.position l.lines.items l.number;
  short : l.number + length l.left ≤ length l.text;
}

abbrev pub decreases-parts : goal.decreases-parts
decreases-parts l = length l.left
