use Rattle.board_times.proofs.LineLemmas.{cut_line}
use Rattle.board_times.proofs.lines.read_line.Goals as goal

pub returns-in_default-number_of-clause-none : goal.returns-in_default-number_of-clause-none
returns-in_default-number_of-clause-none c line fits e =
    let cut = cut_line c.args.text.now c.in-Some.first.now c.in-Some.tail.now line c.in-Some.ensures.some.0 c.in-Some.ensures.some.1 fits e in
    c.in_default-number_of.ensures.none line.first fits.0 cut.0

pub returns-in-None-clause-none : goal.returns-in-None-clause-none
returns-in-None-clause-none c line fits e =
    let cut = cut_line c.args.text.now c.in-Some.first.now c.in-Some.tail.now line c.in-Some.ensures.some.0 c.in-Some.ensures.some.1 fits e in
    c.in-None.ensures.none line.tail fits.1 cut.1
