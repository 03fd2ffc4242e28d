use Rattle.std.proofs.Common.{rules, ◌≡◌, true, false, sym, ◌∙◌}
use Rattle.live_lines.proofs.StreamLemmas.{broke_on, came_kept, came_unkept, ended_by_all, ended_by_part, read_by}
use Rattle.live_lines.proofs.stream.attend_more.Goals as goal

pub returns-in-Err-clause-comes : goal.returns-in-Err-clause-comes
returns-in-Err-clause-comes g c = λ setup recovers input written h.
    read_by c.in-Err.error c.args.recorder.now setup recovers c.args.text.now.items input _ _ written _ h c.in-Err.ensures.fails

pub returns-in-Ok-end-clause-comes : goal.returns-in-Ok-end-clause-comes
returns-in-Ok-end-clause-comes g c = λ setup recovers input written h.
    let none : c.in-Ok.is_more ≡ false = search rules in
    ended_by_all c.in-Ok.is_more c.args.recorder.now setup recovers c.args.text.now.items c.read_more.new.text.items input _ _ written _ h none
    c.in-Ok.ensures.more (sym c.as_slice.ensures.value ∙ c.in-Ok-end.ensures.ok)

pub returns-in-Err-end-clause-comes : goal.returns-in-Err-end-clause-comes
returns-in-Err-end-clause-comes g c = λ setup recovers input written h.
    let none : c.in-Ok.is_more ≡ false = search rules in
    ended_by_part c.in-Err-end.error c.in-Ok.is_more c.args.recorder.now setup recovers c.args.text.now.items c.read_more.new.text.items input _ _ written _ h none
    c.in-Ok.ensures.more c.in-Err-end.ensures.refused.0 (λ nil. c.in-Err-end.ensures.refused.1 (c.as_slice.ensures.value ∙ nil))

pub returns-in-Err-answer_all-clause-comes : goal.returns-in-Err-answer_all-clause-comes
returns-in-Err-answer_all-clause-comes g c = λ setup recovers input written h.
    let some : c.in-Ok.is_more ≡ true = search rules in
    broke_on c.in-Err-answer_all.error c.in-Ok.is_more c.args.recorder.now setup recovers c.args.text.now.items c.read_more.new.text.items c.as_slice-2.result.now
    input _ _ written _ _ h some c.in-Ok.ensures.more c.as_slice-2.ensures.value (λ b s a. c.in-Err-answer_all.ensures.broken setup recovers b s a)

pub returns-in_default-clause-comes : goal.returns-in_default-clause-comes
returns-in_default-clause-comes g c = λ setup recovers input written h.
    let some : c.in-Ok.is_more ≡ true = search rules in
    came_unkept c.in-Ok.is_more c.args.recorder.now c.answer_all.new.recorder setup recovers c.args.text.now.items c.read_more.new.text.items c.as_slice-2.result.now
    c.in-Ok-answer_all.rest.now input _ _ written _ _ h some c.in-Ok.ensures.more c.as_slice-2.ensures.value
    (λ b s a. c.in-Ok-answer_all.ensures.ok setup recovers b s a)

pub returns-clause-comes : goal.returns-clause-comes
returns-clause-comes g c = λ setup recovers input written h.
    let some : c.in-Ok.is_more ≡ true = search rules in
    came_kept c.in-Ok.is_more c.args.recorder.now c.answer_all.new.recorder setup recovers c.args.text.now.items c.read_more.new.text.items c.as_slice-2.result.now
    c.in-Ok-answer_all.rest.now c.keep_last.new.text.items input _ _ written _ _ h some c.in-Ok.ensures.more c.as_slice-2.ensures.value
    (λ b s a. c.in-Ok-answer_all.ensures.ok setup recovers b s a) c.in-Ok-keep_last.ensures
