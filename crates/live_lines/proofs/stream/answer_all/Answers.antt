use Rattle.watched_streams.specs.Watch.{inner_of}
use Rattle.live_lines.proofs.StreamLemmas.{broken_more, broken_wrong, goes_on_more, goes_on_nothing}
use Rattle.live_lines.specs.Entries.{entry_text}
use Rattle.live_lines.proofs.stream.answer_all.Goals as goal

pub entries-init : goal.entries-init
entries-init g c = record {
  working = c.requires.working;
  begun = c.requires.begun;
  flushed = λ was. was;
  attended = λ setup recovers before said a.
      goes_on_nothing c.args.recorder.now setup recovers before said c.args.text.now (g.O.Write.contents (inner_of c.args.out.now)) a;
}

pub entries-preserved : goal.entries-preserved
entries-preserved g c = record {
  working = c.in_default.ensures.working;
  begun = c.in_default.ensures.begun;
  flushed = λ was. c.answer.ensures.flushed (c.entries.invariant.flushed was);
  attended = λ setup recovers before said a.
      goes_on_more c.args.recorder.now c.entries.recorder c.answer.new.recorder setup recovers before said c.args.text.now c.entries.left.now
      c.in-Told.told.rest.now (entry_text c.in-Told.told.entry c.in-Told.told.bytes.now) _ _ _
      (c.entries.invariant.attended setup recovers before said a) c.in-Told.ensures.1
      (λ b s h. c.in_default.ensures.ok setup recovers b s h);
}

pub returns-in-Waits-clause-ok : goal.returns-in-Waits-clause-ok
returns-in-Waits-clause-ok g c = λ setup recovers before said a. (
  c.in-Waits.ensures,
  c.entries.invariant.attended setup recovers before said a,
)

pub returns-in-Wrong-clause-broken : goal.returns-in-Wrong-clause-broken
returns-in-Wrong-clause-broken g c = λ setup recovers before said a.
    broken_wrong c.entries.recorder setup recovers before said c.args.text.now c.entries.left.now _ _
    (c.entries.invariant.attended setup recovers before said a) c.in-Wrong.ensures

pub returns-in-Err-clause-broken : goal.returns-in-Err-clause-broken
returns-in-Err-clause-broken g c = λ setup recovers before said a.
    broken_more c.in-Err.error c.entries.recorder setup recovers before said c.args.text.now c.entries.left.now
    c.in-Told.told.rest.now (entry_text c.in-Told.told.entry c.in-Told.told.bytes.now) _ _ _
    (c.entries.invariant.attended setup recovers before said a) c.in-Told.ensures.1
    (λ b s h. c.in-Err.ensures.broken setup recovers b s h)
