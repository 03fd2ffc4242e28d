use Rattle.std.proofs.Common.{length}
use Rattle.typed_lines.proofs.words.+after_digits.Given as goal

abbrev pub decreases-after_digits : goal.decreases-after_digits
decreases-after_digits l = length l.text.now
