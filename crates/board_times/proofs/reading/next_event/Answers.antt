use Rattle.std.proofs.Common.{sym, ◌∙◌}
use Rattle.board_times.specs.Times.{line_of}
use Rattle.board_times.proofs.EventLemmas.{no_event}
use Rattle.board_times.proofs.reading.next_event.Goals as goal

pub returns-in-None-clause-none : goal.returns-in-None-clause-none
returns-in-None-clause-none c event more fits e =
    no_event c.in-Some.line c.in-Some.rest.now event more c.in-Some.ensures.some.0 (sym c.in-None.ensures) fits (sym c.in-Some.ensures.some.1 ∙ e)

pub returns-in_default-clause-none : goal.returns-in_default-clause-none
returns-in_default-clause-none c event more fits e = c.in_default.ensures.none (line_of event) more fits e
