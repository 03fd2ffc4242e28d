use Rattle.std.proofs.Common.{sym, ap, ◌∙◌}
use Rattle.board_times.specs.Times.{version_line}
use Rattle.board_times.proofs.TextLemmas.{line_once}
use Rattle.board_times.proofs.reading.other_version.Goals as goal

pub returns-in_default-clause-none : goal.returns-in_default-clause-none
returns-in_default-clause-none c version has = c.in_default.ensures.none (version_line version has.0) has.1 (has.3, has.4) has.5

pub returns-in_default-version_of-clause-none : goal.returns-in_default-version_of-clause-none
returns-in_default-version_of-clause-none c version has =
    let same = line_once c.in-Some.line (version_line version has.0) c.in-Some.field-0-1.now has.1 c.in-Some.ensures.some.0 (has.3, has.4)
    (sym c.in-Some.ensures.some.1 ∙ has.5) in
    c.in_default-version_of.ensures.none version has.0 same.0

pub returns-then-version-eq1-clause-none : goal.returns-then-version-eq1-clause-none
returns-then-version-eq1-clause-none c version has =
    let same = line_once c.in-Some.line (version_line version has.0) c.in-Some.field-0-1.now has.1 c.in-Some.ensures.some.0 (has.3, has.4)
    (sym c.in-Some.ensures.some.1 ∙ has.5) in
    has.2 (ap (λ l. l.first) (sym same.0 ∙ c.in-Some-version_of.ensures.some) ∙ c.if-version-eq1.true)
