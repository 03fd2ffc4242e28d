use Rattle.std.proofs.Common.{rules}
use Rattle.live_lines.proofs.NextLemmas.{wrong_long}
use Rattle.live_lines.proofs.next.unfinished_line.Goals as goal

pub returns-else-text-lt-LINE : goal.returns-else-text-lt-LINE
returns-else-text-lt-LINE c = wrong_long c.args.text.now c.requires (search rules)
