use Rattle.std.proofs.Common.{length}
use Rattle.typed_lines.proofs.words.+after_dots.Given as goal

abbrev pub decreases-after_dots : goal.decreases-after_dots
decreases-after_dots l = length l.text.now
