use Rattle.std.proofs.Common.{◌≡◌, sym, ◌∙◌}
use Rattle.dgt_frame.specs.Streams.{Timed}
use Rattle.watched_streams.specs.Watch.{inner_of}
use Rattle.board_listing.specs.Inside.Printers.{AddsLines}
use Rattle.watched_streams.proofs.ResultLemmas.{at_err, at_ok}
use Rattle.board_listing.proofs.GatherLemmas.{at_fault, begun_on, broken_both, broken_memory, broken_write, gathers_event, gathers_none}
use Rattle.board_listing.proofs.stream.gather.Goals as goal

pub returns-in-Ok-clause-broken : goal.returns-in-Ok-clause-broken
returns-in-Ok-clause-broken g c =
    let x : Timed = record { offset = c.args.offset; event = c.args.event.now } in
    let refused = sym c.is_err.ensures.value ∙ c.if-is_err.true in
    let kept : c.add.new.lines.items ≡ c.args.lines.now.items = at_err _ c.add.result refused c.add.ensures.err in
    broken_memory c.args.printer.now c.args.lines.now.items x (g.O.Write.contents (inner_of c.args.out.now)) (g.O.Write.contents (inner_of c.put.new.out))
    (λ listing events follows. at_err _ c.add.result refused (c.add.ensures.memory listing events follows)) (rw (c.as_slice.ensures.value, kept) at c.in-Ok.ensures.ok)

pub returns-in-Err-clause-broken : goal.returns-in-Err-clause-broken
returns-in-Err-clause-broken g c =
    let x : Timed = record { offset = c.args.offset; event = c.args.event.now } in
    let refused = sym c.is_err.ensures.value ∙ c.if-is_err.true in
    let kept : c.add.new.lines.items ≡ c.args.lines.now.items = at_err _ c.add.result refused c.add.ensures.err in
    broken_both c.args.printer.now c.args.lines.now.items x c.in-Err.field-0.written (g.O.Write.contents (inner_of c.args.out.now)) (g.O.Write.contents (inner_of c.put.new.out))
    (λ listing events follows. at_err _ c.add.result refused (c.add.ensures.memory listing events follows)) (rw (c.as_slice.ensures.value, kept) at c.in-Err.ensures.fault.1)

pub returns-then-is_err-2-clause-broken : goal.returns-then-is_err-2-clause-broken
returns-then-is_err-2-clause-broken g c =
    let x : Timed = record { offset = c.args.offset; event = c.args.event.now } in
    let written = g.O.Write.contents (inner_of c.args.out.now) in
    let after = g.O.Write.contents (inner_of c.put-then-len-gt-GATHERED.new.out) in
    let added : AddsLines c.args.printer.now c.args.lines.now.items x c.add.new.self c.add.new.lines.items = at_ok _ c.add.result (sym c.is_err.ensures.value ∙ c.if-is_err.false) c.add.ensures.ok in
    let fault = at_fault _ _ c.put-then-len-gt-GATHERED.result (sym c.is_err-then-len-gt-GATHERED.ensures.value ∙ c.if-is_err-2.true) (rw c.as_slice-then-len-gt-GATHERED.ensures.value at c.put-then-len-gt-GATHERED.ensures.fault) in
    broken_write c.args.printer.now c.add.new.self c.args.lines.now.items c.add.new.lines.items x fault.0 written after
    (gathers_event c.args.printer.now c.add.new.self c.args.lines.now.items c.add.new.lines.items x written added) fault.1

pub returns-else-is_err-2-clause-ok : goal.returns-else-is_err-2-clause-ok
returns-else-is_err-2-clause-ok g c =
    let x : Timed = record { offset = c.args.offset; event = c.args.event.now } in
    let written = g.O.Write.contents (inner_of c.args.out.now) in
    let after = g.O.Write.contents (inner_of c.put-then-len-gt-GATHERED.new.out) in
    let added : AddsLines c.args.printer.now c.args.lines.now.items x c.add.new.self c.add.new.lines.items = at_ok _ c.add.result (sym c.is_err.ensures.value ∙ c.if-is_err.false) c.add.ensures.ok in
    let sent = at_ok _ c.put-then-len-gt-GATHERED.result (sym c.is_err-then-len-gt-GATHERED.ensures.value ∙ c.if-is_err-2.false) (rw c.as_slice-then-len-gt-GATHERED.ensures.value at c.put-then-len-gt-GATHERED.ensures.ok) in
    let whole = gathers_none c.args.printer.now c.add.new.self c.args.lines.now.items c.add.new.lines.items x written after
    (gathers_event c.args.printer.now c.add.new.self c.args.lines.now.items c.add.new.lines.items x written added) sent in
    rw c.clear.ensures whole

pub returns-else-len-gt-GATHERED-clause-ok : goal.returns-else-len-gt-GATHERED-clause-ok
returns-else-len-gt-GATHERED-clause-ok g c =
    let x : Timed = record { offset = c.args.offset; event = c.args.event.now } in
    let added : AddsLines c.args.printer.now c.args.lines.now.items x c.add.new.self c.add.new.lines.items = at_ok _ c.add.result (sym c.is_err.ensures.value ∙ c.if-is_err.false) c.add.ensures.ok in
    gathers_event c.args.printer.now c.add.new.self c.args.lines.now.items c.add.new.lines.items x (g.O.Write.contents (inner_of c.args.out.now)) added

pub returns-else-len-gt-GATHERED-clause-begun : goal.returns-else-len-gt-GATHERED-clause-begun
returns-else-len-gt-GATHERED-clause-begun g c =
    let x : Timed = record { offset = c.args.offset; event = c.args.event.now } in
    let added : AddsLines c.args.printer.now c.args.lines.now.items x c.add.new.self c.add.new.lines.items = at_ok _ c.add.result (sym c.is_err.ensures.value ∙ c.if-is_err.false) c.add.ensures.ok in
    begun_on c.args.printer.now c.add.new.self c.args.lines.now.items c.add.new.lines.items x c.requires.begun added

pub returns-else-is_err-2-clause-begun : goal.returns-else-is_err-2-clause-begun
returns-else-is_err-2-clause-begun g c =
    let x : Timed = record { offset = c.args.offset; event = c.args.event.now } in
    let added : AddsLines c.args.printer.now c.args.lines.now.items x c.add.new.self c.add.new.lines.items = at_ok _ c.add.result (sym c.is_err.ensures.value ∙ c.if-is_err.false) c.add.ensures.ok in
    begun_on c.args.printer.now c.add.new.self c.args.lines.now.items c.add.new.lines.items x c.requires.begun added
