use Rattle.std.proofs.Common.{rules, ◌≡◌, true, false}
use Rattle.live_lines.proofs.StreamLemmas.{all_of, began_by_front, come_first, come_of}
use Rattle.live_lines.proofs.stream.attend.Goals as goal

pub returns-in-Err-clause-ends : goal.returns-in-Err-clause-ends
returns-in-Err-clause-ends g c =
    began_by_front c.in-Err.error c.args.setup c.args.recovers _ _ _
    c.in-Err.ensures.cause c.in-Err.ensures.part

pub reads-init : goal.reads-init
reads-init g c = record {
  reading = c.requires.reading;
  working = c.in_default.ensures.working;
  flushed = c.begin.ensures.flushed;
  begun = c.new-recorder.ensures.begun;
  come = come_first c.new-recorder.result c.args.setup c.args.recovers c.new-text.result.items _ _ _
      c.new-text.ensures.items c.new-recorder.ensures.stands c.in_default.ensures.ok;
}

pub returns-then-not-is_more-clause-ok : goal.returns-then-not-is_more-clause-ok
returns-then-not-is_more-clause-ok g c =
    let none : c.in-Ok.is_more ≡ false = search rules in
    all_of c.in-Ok.is_more c.attend_more.new.recorder c.args.setup c.args.recovers c.attend_more.new.text.items _ _ _ _ none
    (c.in-Ok.ensures.comes c.args.setup c.args.recovers _ _ c.reads.invariant.come)

pub reads-preserved : goal.reads-preserved
reads-preserved g c =
    let some : c.in-Ok.is_more ≡ true = search rules in
    record {
      reading = c.in-Ok.ensures.whole.0;
      working = c.in-Ok.ensures.whole.1;
      flushed = c.attend_more.ensures.flushed c.reads.invariant.flushed;
      begun = c.in-Ok.ensures.begun;
      come = come_of c.in-Ok.is_more c.attend_more.new.recorder c.args.setup c.args.recovers c.attend_more.new.text.items _ _ _ _ some
          (c.in-Ok.ensures.comes c.args.setup c.args.recovers _ _ c.reads.invariant.come);
    }
