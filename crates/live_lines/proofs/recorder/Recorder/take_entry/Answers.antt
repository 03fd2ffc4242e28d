use Rattle.std.proofs.Common.{◌≡◌, ◌∷◌, [], ◌++◌, ℕ, false, List, ap, ◌∙◌, subst, sym, refl}
use Rattle.board_events.specs.Settings.{setting_of}
use Rattle.board_live.specs.Coming.{came}
use Rattle.board_live.specs.Live.{StandsFor as LiveStands}
use Rattle.board_live.specs.Moments.{Moment}
use Rattle.live_lines.specs.declared.clock.Clock.{Clock}
use Rattle.live_lines.specs.Answers.{answer_text}
use Rattle.live_lines.specs.Clock.{clock_after, next_clock}
use Rattle.live_lines.specs.Explaining.{ExplainsSaid}
use Rattle.live_lines.specs.Entries.{brings_capture, wants_text}
use Rattle.live_lines.specs.Heard.{Heard, waiting_by}
use Rattle.live_lines.specs.Meaning.{moments, time_of}
use Rattle.live_lines.proofs.RecorderLemmas.{answered, clock_goes_on, given_text, is_answered, is_heard, moments_go_on, same_moment}
use Rattle.live_lines.proofs.recorder.Recorder.take_entry.Goals as goal

pub returns-clause-stands : goal.returns-clause-stands
returns-clause-stands c = λ setup recovers past text s.
    let heard : Heard = record { entry = c.args.entry; bytes = c.args.bytes.now; events = [] } in
    let other : brings_capture heard.entry.what ≡ false = c.requires.brings in
    let clock : c.take-at.new.self ≡ next_clock heard.entry (clock_after past) = c.take-at.ensures.next ∙ ap (λ (k : Clock). next_clock heard.entry k) s.clock in
    let now : c.take-at.result ≡ time_of heard past = c.take-at.ensures.time ∙ ap (λ (k : Clock). k.last) clock in
    let m : Moment = record { at = c.take-at.result; what = c.meaning_of-what.result; bytes = c.args.bytes.now } in
    let is = same_moment heard c.take-at.result (time_of heard past) c.meaning_of-what.result now c.meaning_of-what.ensures in
    let took = c.in_ok-answer.ensures.stands (setting_of setup) recovers (moments past) text s.live in
    let more : List ℕ = took.0 in
    let lines : c.as_slice.result.now ≡ more = c.as_slice.ensures.value ∙ took.1 ∙ ap (λ t. t ++ more) c.clear.ensures.items in
    let L : List Moment → Type 0 = λ x. LiveStands c.take.new.self (setting_of setup) recovers x (text ++ more) in (
      heard,
      more,
      answer_text c.take-at.result c.in_ok-answer.answer c.kept-kept.result.now c.as_slice.result.now c.as_slice-2.result.now c.as_slice-3.result.now c.said-looks.result.now c.due-due.result,
      refl,
      refl,
      is_heard heard past other refl,
      c.in_ok-add_answer.ensures,
      is_answered setup recovers heard past more _ other (answered setup recovers heard past m c.take-at.result c.in_ok-answer.answer c.due-due.result c.kept-kept.result.now c.as_slice.result.now more c.as_slice-2.result.now c.as_slice-3.result.now c.said-looks.result.now
          is now lines
          (λ turns h. (c.alarms.result.now, c.alarms.ensures (setting_of setup) recovers (m ∷ moments past) (text ++ more) turns took.2 h, c.said-looks.ensures))
          (λ turns h. c.kept-kept.ensures (setting_of setup) recovers (m ∷ moments past) (text ++ more) turns took.2 h)
          (λ turn turns h. c.in_ok-answer.ensures.answers (setting_of setup) recovers (moments past) text turn turns s.live h)
          (λ turns h. subst (λ (line : List ℕ). ExplainsSaid c.in_ok-answer.answer.state (setting_of setup) recovers (came (m ∷ moments past) turns) line)
          (sym c.as_slice-2.ensures.value)
          (c.in_ok-fits.ensures (setting_of setup) recovers (came (m ∷ moments past) turns) (text ++ more)
          (c.game-board.ensures.stands (setting_of setup) recovers (m ∷ moments past) (text ++ more) turns took.2 h)))
          (λ turns h. given_text c.wants_text-is_wanted.result (wants_text heard.entry.what) (setting_of setup) recovers c.args.self.now.tags setup.tags
          (came (m ∷ moments past) turns) c.in_ok-game.game.items c.as_slice-3.result.now c.wants_text-is_wanted.ensures s.tags c.as_slice-3.ensures.value
          (c.in_ok-game.ensures (setting_of setup) recovers (came (m ∷ moments past) turns) (text ++ more)
          (c.game-board.ensures.stands (setting_of setup) recovers (m ∷ moments past) (text ++ more) turns took.2 h)))
          (λ turns h. c.due-due.ensures.asks (setting_of setup) recovers (m ∷ moments past) (text ++ more) turns took.2 h)
          (λ turns h. c.due-due.ensures.handling (setting_of setup) recovers (m ∷ moments past) (text ++ more) turns took.2 h)
          (λ turns h. c.due-due.ensures.state (setting_of setup) recovers (m ∷ moments past) (text ++ more) turns took.2 h)
          (λ turns h. c.due-due.ensures.changes (setting_of setup) recovers (m ∷ moments past) (text ++ more) turns took.2 h)
          (λ turns h. c.due-due.ensures.end (setting_of setup) recovers (m ∷ moments past) (text ++ more) turns took.2 h)
          (λ turns h. c.due-due.ensures.wakes (setting_of setup) recovers (m ∷ moments past) (text ++ more) turns took.2 h)
          took.2.attends.cable.turns took.2.attends.cable.happened),
      record {
        clock = clock ∙ sym (clock_goes_on heard past other);
        tags = s.tags;
        times = c.in_ok-remember.ensures ∙ ap (λ t. waiting_by heard.entry.what heard.bytes t) s.times;
        live = subst L (ap (λ x. x ∷ moments past) is ∙ sym (moments_go_on heard past other)) took.2;
      },
    )
