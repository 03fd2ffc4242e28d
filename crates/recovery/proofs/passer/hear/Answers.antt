use Rattle.std.proofs.Common.{Ok, None, ap, ◌∙◌, true, false, if◌then◌else◌}
use Rattle.board_events.specs.Session.{entries_in}
use Rattle.recovery.specs.Inside.Keeping.{KeepsNext}
use Rattle.recovery.proofs.EventLemmas.{carries_none}
use Rattle.recovery.proofs.KeepLemmas.{at_some}
use Rattle.recovery.proofs.passer.hear.Goals as goal

pub tell-requires-clause-told : goal.tell-requires-clause-told
tell-requires-clause-told c =
    let begun = c.requires.begun in (
      begun.0,
      begun.1,
      c.args.event.now,
      begun.2,
      at_some (λ is. KeepsNext c.take.new.self begun.0 begun.1 c.args.event.now (if is then c.take.new.self.found else None) begun.2) c.take.result true (c.in-Ok-true.is ∙ ap Ok c.in-Ok-true.field-0-test)
          (c.take.ensures.next begun.0 begun.1 begun.2 begun.3),
    )

pub returns-in-Ok-false-clause-heard : goal.returns-in-Ok-false-clause-heard
returns-in-Ok-false-clause-heard c = λ setting past written carries.
    let event = c.args.event.now in
    let next : KeepsNext c.take.new.self setting past event None (entries_in setting written) =
    at_some (λ is. KeepsNext c.take.new.self setting past event (if is then c.take.new.self.found else None) (entries_in setting written)) c.take.result false (c.in-Ok-false.is ∙ ap Ok c.in-Ok-false.field-0-test)
    (c.take.ensures.next setting past (entries_in setting written) carries.keeps) in
    record {
      found = None;
      finds = next.finds;
      carries = carries_none c.take.new.self setting event past written c.requires.range carries.alike next;
      adds = (c.clear.ensures, c.clear-2.ensures);
    }

pub returns-in-Ok-true-clause-heard : goal.returns-in-Ok-true-clause-heard
returns-in-Ok-true-clause-heard c = λ setting past written carries.
    let event = c.args.event.now in
    let next : KeepsNext c.take.new.self setting past event c.take.new.self.found (entries_in setting written) =
    at_some (λ is. KeepsNext c.take.new.self setting past event (if is then c.take.new.self.found else None) (entries_in setting written)) c.take.result true (c.in-Ok-true.is ∙ ap Ok c.in-Ok-true.field-0-test)
    (c.take.ensures.next setting past (entries_in setting written) carries.keeps) in
    c.tell.ensures setting past written event c.requires.range carries.alike next

pub returns-in-Err-clause-refused : goal.returns-in-Err-clause-refused
returns-in-Err-clause-refused c = λ setting past written carries.
    c.in-Err.ensures.refused setting past (entries_in setting written) carries.keeps
