use Rattle.std.proofs.Common.{sym, ap, ◌∙◌, ◌++◌}
use Rattle.board_times.specs.declared.lines.Line.{Line}
use Rattle.board_times.specs.Lines.{line_text}
use Rattle.board_times.proofs.LineLemmas.{a_line}
use Rattle.live_lines.proofs.EntryLemmas.{entry_is}
use Rattle.live_lines.proofs.NextLemmas.{wrong_entry, wrong_line}
use Rattle.live_lines.proofs.next.next_entry.Goals as goal

pub returns-in_default-read_line : goal.returns-in_default-read_line
returns-in_default-read_line c =
    wrong_line c.args.text.now c.in-Some.first.now c.in-Some.behind.now c.in-Some.ensures.some.0 c.in-Some.ensures.some.1 c.in_default-read_line.ensures.none

pub returns-in_default-entry_of : goal.returns-in_default-entry_of
returns-in_default-entry_of c =
    let line = c.in-Some-read_line.line in
    wrong_entry c.args.text.now c.in-Some.behind.now line
    (a_line c.args.text.now c.in-Some.first.now c.in-Some.behind.now line c.in-Some.ensures.some.0 c.in-Some-read_line.ensures.some.1)
    c.in-Some-read_line.ensures.some.0 (sym c.in_default-entry_of.ensures)

pub with_bytes-requires-clause-is : goal.with_bytes-requires-clause-is
with_bytes-requires-clause-is c =
    let line = c.in-Some-read_line.line in
    a_line c.args.text.now c.in-Some.first.now c.in-Some.behind.now line c.in-Some.ensures.some.0 c.in-Some-read_line.ensures.some.1
    ∙ ap (λ (it : Line). line_text it ++ c.in-Some.behind.now) (entry_is line c.in-Some-entry_of.entry (sym c.in-Some-entry_of.ensures))
