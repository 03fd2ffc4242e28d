use Rattle.std.proofs.Common.{◌+◌, ◌-◌, ◌∷◌, ◌++◌, refl, subst, append-nil, IfNone}
use Rattle.dgt_frame.specs.Decoder.{TakesAll}
use Rattle.board_events.specs.Commands.{past_of}
use Rattle.recovery.proofs.GiveLemmas.{is_put_in}
use Rattle.recovery.proofs.RangeLemmas.{in_range}
use Rattle.recovery.proofs.PassLemmas.{refuses_event, stands_event, stands_none}
use Rattle.recovery.proofs.passer.pass.Goals as goal

pub returns-in_default-clause-none : goal.returns-in_default-clause-none
returns-in_default-clause-none c = λ setting bytes woven text at s.
    let chunk = c.args.bytes.now in
    let takes : TakesAll c.args.decoder.now chunk c.push_into.new.self =
    subst (λ found. IfNone found (TakesAll c.args.decoder.now chunk c.push_into.new.self)) c.in_default.is c.push_into.ensures.none in
    rw (append-nil (woven ++ chunk), append-nil text)
    (stands_none c.args.decoder.now c.push_into.new.self c.args.keeper.now setting bytes woven text chunk takes s)

pub returns-in-Ok-clause-some : goal.returns-in-Ok-clause-some
returns-in-Ok-clause-some c = λ setting bytes woven text at s.
    stands_event c.frames_are_put_in.ensures.between c.args.decoder.now c.push_into.new.self c.args.keeper.now c.hear.new.keeper setting c.args.start
    (c.args.start + (c.in-Some.taken - 1)) c.in-Some.taken c.pending-2.result c.push_into.new.event bytes woven text c.args.bytes.now
    c.hear.new.frames.items c.hear.new.line.items c.in-Some.ensures.taken.0 c.in-Some.ensures.taken.1 refl at c.in-Some.ensures.some c.pending-2.ensures
    (λ past written carries. c.in-Ok.ensures.heard setting past written carries) s

pub returns-in-Ok-clause-put_in : goal.returns-in-Ok-clause-put_in
returns-in-Ok-clause-put_in c =
    let begun = c.requires.begun in
    let h = c.in-Ok.ensures.heard begun.0 (past_of begun.5.events) (past_of begun.5.written) begun.5.carries in
    is_put_in begun.0 (c.push_into.new.event ∷ past_of begun.5.events) (c.args.start + (c.in-Some.taken - 1)) h.found c.hear.new.frames.items c.hear.new.line.items h.adds

pub returns-in-Err-clause-refused : goal.returns-in-Err-clause-refused
returns-in-Err-clause-refused c = λ setting bytes woven text s.
    refuses_event c.args.decoder.now c.push_into.new.self c.args.keeper.now setting c.in-Some.taken c.pending.result c.pending-2.result c.push_into.new.event bytes woven text c.args.bytes.now
    c.in-Some.ensures.taken.0 c.in-Some.ensures.taken.1 c.in-Some.ensures.some c.pending.ensures c.pending-2.ensures
    (λ past written carries. c.in-Err.ensures.refused setting past written carries) s

pub hear-requires-clause-range : goal.hear-requires-clause-range
hear-requires-clause-range c =
    let begun = c.requires.begun in
    in_range c.push_into.new.event (c.in-Some.ensures.frame begun.1 begun.5.events begun.5.decoded)
