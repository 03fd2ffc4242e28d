use Rattle.std.proofs.Common.{◌++◌, ap, sym, ◌∙◌, length}
use Rattle.std.proofs.lemmas.List.{append_assoc}
use Rattle.board_times.specs.Times.{heading_text, lines_of}
use Rattle.board_times.proofs.EventLemmas.{read_once}
use Rattle.board_times.proofs.HeadingLemmas.{heading_once}
use Rattle.board_times.proofs.laws.written_is_read.Goals as goal

pub returns : goal.returns
returns c heading events torn kept fits all none found =
    let head = heading_once heading kept.heading (lines_of events ++ torn) found.0 fits found.1
    (sym (append_assoc (heading_text heading) (lines_of events) torn) ∙ found.2) in
    let read = read_once events kept.events.items torn found.3.0 all found.3.3 none found.3.4 (head.1 ∙ found.3.1) in
    (sym head.0, sym read.0, sym found.3.2 ∙ ap length (sym read.1))
