use Rattle.std.proofs.Common.{◌++◌, ℕ, List, ap, ◌∙◌, subst, sym, refl}
use Rattle.board_events.specs.Settings.{setting_of}
use Rattle.board_live.specs.Live.{StandsFor as LiveStands}
use Rattle.board_live.specs.Moments.{Moment}
use Rattle.board_times.specs.declared.events.Event.{Event}
use Rattle.live_lines.specs.declared.clock.Clock.{Clock}
use Rattle.live_lines.specs.Answers.{capture_text}
use Rattle.live_lines.specs.Clock.{clock_over}
use Rattle.live_lines.specs.Heard.{AreEventsOf, Heard, waiting}
use Rattle.live_lines.specs.History.{history_of}
use Rattle.live_lines.specs.Meaning.{moments}
use Rattle.live_lines.proofs.RecorderLemmas.{are_events, capture_answered, capture_clock, capture_heard, capture_moments, capture_waits}
use Rattle.live_lines.proofs.recorder.Recorder.take_capture.Goals as goal

pub returns-clause-stands : goal.returns-clause-stands
returns-clause-stands c = λ setup recovers entry past text brings s.
    let capture : List ℕ = c.args.capture.now in
    let events : List Event = c.events_for-events.result.now in
    let heard : Heard = record { entry = entry; bytes = capture; events = events } in
    let found : AreEventsOf (waiting past) capture events =
    are_events c.as_slice.result.now (waiting past) capture c.in_ok-found.found events (c.as_slice.ensures.value ∙ s.times) c.in_ok-found.ensures c.events_for-events.ensures in
    let took = c.in_ok-tell_history.ensures.told (setting_of setup) recovers (moments past) text s.live in
    let more : List ℕ = took.0 in
    let L : List Moment → Type 0 = λ x. LiveStands c.tell_history.new.live (setting_of setup) recovers x (text ++ more) in
    let H : Clock → List Moment = λ k. history_of k events capture (moments past) in (
      heard,
      more,
      capture_text more,
      refl,
      refl,
      capture_heard heard past brings found,
      c.in_ok-end_report.ensures c.args.out.now.items more took.1,
      capture_answered setup recovers heard past more _ brings refl,
      record {
        clock = c.in_ok-tell_history.ensures.clock ∙ ap (λ (k : Clock). clock_over k events) s.clock ∙ sym (capture_clock heard past brings);
        times = c.new.ensures.items ∙ sym (capture_waits heard past brings);
        tags = s.tags;
        live = subst L (ap H s.clock ∙ sym (capture_moments heard past brings)) took.2;
      },
    )
