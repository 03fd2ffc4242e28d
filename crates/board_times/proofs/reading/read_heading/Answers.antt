use Rattle.std.proofs.Common.{◌++◌, Some, ◌∙◌, sym}
use Rattle.board_times.specs.Lines.{line_text}
use Rattle.board_times.specs.Times.{digest_line, version_line}
use Rattle.board_times.proofs.HeadingLemmas.{first_fits, first_line, two_lines}
use Rattle.board_times.proofs.TextLemmas.{line_once}
use Rattle.board_times.proofs.reading.read_heading.Goals as goal

pub returns-in_default-clause-none : goal.returns-in_default-clause-none
returns-in_default-clause-none c heading more fits e =
    c.in_default.ensures.none (version_line 1 (Some heading.generation)) (line_text (digest_line heading.size heading.digest) ++ more)
    (first_fits heading fits) (e ∙ two_lines heading more)

pub returns-in_default-generation_of-clause-none : goal.returns-in_default-generation_of-clause-none
returns-in_default-generation_of-clause-none c heading more fits e =
    let same = first_line c.args.text.now c.in-Some.left.now more c.in-Some.first heading c.in-Some.ensures.some.0 fits c.in-Some.ensures.some.1 e in
    c.in_default-generation_of.ensures.none heading.generation same.0

pub returns-in_default-next_line-clause-none : goal.returns-in_default-next_line-clause-none
returns-in_default-next_line-clause-none c heading more fits e =
    let same = first_line c.args.text.now c.in-Some.left.now more c.in-Some.first heading c.in-Some.ensures.some.0 fits c.in-Some.ensures.some.1 e in
    c.in_default-next_line.ensures.none (digest_line heading.size heading.digest) more (fits.1, fits.2) same.1

pub returns-in_default-digest_of-clause-none : goal.returns-in_default-digest_of-clause-none
returns-in_default-digest_of-clause-none c heading more fits e =
    let same = first_line c.args.text.now c.in-Some.left.now more c.in-Some.first heading c.in-Some.ensures.some.0 fits c.in-Some.ensures.some.1 e in
    let second = line_once c.in-Some-next_line.second (digest_line heading.size heading.digest) c.in-Some-next_line.rest.now more
    c.in-Some-next_line.ensures.some.0 (fits.1, fits.2) (sym c.in-Some-next_line.ensures.some.1 ∙ same.1) in
    c.in_default-digest_of.ensures.none heading.size heading.digest second.0
