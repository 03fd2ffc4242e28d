use Rattle.std.proofs.Common.{◌≡◌, ◌∷◌, ℕ, List, length, refl, ap, subst, sym, ◌∙◌}
use Rattle.std.proofs.lemmas.Result.{on_ok_weaker}
use Rattle.settle_core.specs.Settler.{SettlerState}
use Rattle.board_alarms.specs.declared.look.Told.{Told}
use Rattle.board_events.specs.History.{reading_at}
use Rattle.board_alarms.specs.Clock.{clock_of, counts_said, lever_at, lever_said, presses_of, runs_said}
use Rattle.board_alarms.specs.Hearing.{AreMoved, EventHeard, agrees, away_of, moves, shown_at, with_event}
use Rattle.board_alarms.specs.Plies.{HearsPlies}
use Rattle.board_alarms.specs.Inside.{Grows, ShowsLast}
use Rattle.board_alarms.specs.Items.{events_of}
use Rattle.board_alarms.specs.Keeping.{KeepsCourse}
use Rattle.board_alarms.proofs.MaskLemmas.{shows_last}
use Rattle.board_alarms.proofs.PlyLemmas.{grows}
use Rattle.board_alarms.proofs.TakeLemmas.{shown_is}
use Rattle.board_alarms.proofs.alarms.Alarms.take.Goals as goal

pub returns : goal.returns
returns c = λ setting items h shown moved taken outcome.
    let past = events_of items in
    let event = c.args.event.now in
    let settled = taken.settler in
    let old = h.score.plies in
    let score = c.args.session.now.settler.score in
    let chunk = c.args.chunk in
    let at = chunk.when.at in
    let added = chunk.when.is_added in
    let sees = shown_at c.args.sight c.args.picture.now in
    let grown = grows setting past event h.score score h.valid h.folds settled.folds in
    let picture = c.in_ok-tell_picture.ensures setting.start old _ h.course (c.in_ok-tell_gap.ensures h.told h.looks) in
    let same = c.settler-settler.ensures.same in
    let start_is : c.settler-settler.result.now.start ≡ setting.start = ap (λ (s : SettlerState). s.start) same ∙ settled.start_is in
    let score_last = c.args.session.now.settler.last in
    let L : SettlerState → Type 0 = λ s. ShowsLast c.args.sight s.last c.args.picture.now in
    let M : SettlerState → Type 0 = λ s. AreMoved (moves c.args.sight) old s.score.plies in
    let G : SettlerState → Type 0 = λ s. Grows old s.score.plies in
    let plies = c.in_ok-tell_plies.ensures setting.start old _ h.course start_is (subst G (sym same) grown) (subst M (sym same) (moved h.score score h.folds settled.folds))
    (subst L (sym same) (shows_last c.args.sight score_last c.args.self.now.shown c.args.picture.now (shown_is setting past event sees c.args.self.now.shown shown h.shown ∙ sym settled.last))) picture.2 in
    let result = c.in_ok-tell_result.ensures _ plies.4 in
    let heard : EventHeard = record {
      away = away_of c.gap_before-gap.result;
      shows = picture.0;
      news = plies.0;
      ply = plies.1;
      ended = result.0;
      counts = counts_said chunk (reading_at setting.first past) (reading_at setting.first (event ∷ past));
      presses = presses_of (lever_said chunk event) (lever_at items);
      clock = clock_of (runs_said chunk event);
    } in
    let N : SettlerState → Type 0 = λ s. HearsPlies setting.start (agrees setting.start s.score.plies sees) old s.score.plies plies.0 plies.1 in
    let K : SettlerState → Type 0 = λ s. KeepsCourse c.tell_plies.new.course setting.start s.score.plies in
    let course = subst K same plies.3 in
    let T : ℕ → ℕ → List Told = λ one other. with_event at added one other heard h.told in
    on_ok_weaker c.tell_clock.result (λ clock. record {
      valid = h.valid;
      told = T c.args.self.now.course.count c.tell_plies.new.course.count;
      score = score;
      tells = (
        h.told,
        h.score,
        score,
        heard,
        h.tells,
        record {
          shown = sees;
          old_result = c.args.self.now.result;
          new_result = c.args.outcome;
          old_folds = h.folds;
          new_folds = settled.folds;
          is_shown = shown;
          old_result_is = h.result_is;
          new_result_is = outcome;
          away = ap away_of (c.gap_before-gap.ensures items h.line);
          shows = picture.1;
          plies = subst N same plies.2;
          ended = result.1;
          counts = refl;
          presses = refl;
          clock = refl;
        },
        ap (λ (n : ℕ). T n c.tell_plies.new.course.count) h.course.counted ∙ ap (λ (n : ℕ). T (length old) n) course.counted,
      );
      folds = settled.folds;
      looks = clock.2;
      course = course;
      line = c.hear.ensures items event h.line;
      shown = c.show.ensures ∙ shown_is setting past event sees c.args.self.now.shown shown h.shown;
      result_is = outcome;
      reading_is = clock.0;
      lever_is = clock.1;
    }) (c.tell_clock.ensures setting items _ taken h.reading_is h.lever_is result.2)
