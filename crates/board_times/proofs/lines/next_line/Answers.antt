use Rattle.board_times.proofs.LineLemmas.{no_feed, no_line}
use Rattle.board_times.proofs.lines.next_line.Goals as goal

pub returns-in-None-clause-none : goal.returns-in-None-clause-none
returns-in-None-clause-none c line more fits e =
    no_line c.args.text.now c.in-Some.line.now c.in-Some.rest.now c.in-Some.ensures.some.0 c.in-Some.ensures.some.1 c.in-None.ensures.none line more fits e

pub returns-in_default-clause-none : goal.returns-in_default-clause-none
returns-in_default-clause-none c = no_feed c.args.text.now c.in_default.ensures.none
