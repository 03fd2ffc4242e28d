use Rattle.std.proofs.Common.{rules}
use Rattle.live_lines.proofs.NextLemmas.{wrong_size}
use Rattle.live_lines.proofs.next.with_bytes.Goals as goal

pub returns-then-size-gt-MOST : goal.returns-then-size-gt-MOST
returns-then-size-gt-MOST c = wrong_size c.args.text.now c.args.behind.now c.args.entry c.requires.is c.requires.fits (search rules)
