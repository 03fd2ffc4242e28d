use Rattle.std.proofs.Common.{◌≡◌, ℕ, Bool, true, List, Some, refl, sym, ap, subst, ◌∙◌}
use Rattle.std.proofs.lemmas.Result.{on_ok_weaker}
use Rattle.settle_core.specs.Settler.{SettlerState, position_of}
use Rattle.settle_core.specs.Masks.{IsDiff}
use Rattle.settle_core.specs.Folding.{moves_of}
use Rattle.settle_core.specs.Settling.{reached}
use Rattle.chess_rules.specs.Picture.{picture}
use Rattle.chess_rules.specs.declared.parts.Parts.{Parts}
use Rattle.board_alarms.specs.Hearing.{AreMoved, is_another}
use Rattle.board_endings.specs.Items.{events_of}
use Rattle.board_endings.specs.Keeping.{KeepsCourse}
use Rattle.board_endings.specs.Moves.{TellsMove}
use Rattle.board_endings.specs.Telling.{TellsEvent, TellsPicture, listened, with_picture}
use Rattle.board_endings.proofs.CourseLemmas.{last_is_new}
use Rattle.board_endings.proofs.endings.Endings.take.Goals as goal

pub returns : goal.returns
returns c = λ setting items event h shown becomes taken outcome.
    let past = events_of items in
    let start = setting.start in
    let added = c.args.when.is_added in
    let old = h.score.plies in
    let score = c.args.session.now.settler.score in
    let settled = taken.settler in
    let R : Bool → Type 0 = λ b. AreMoved b old score.plies in
    let becoming = subst R (sym c.moves.ensures) (becomes h.score score h.folds settled.folds) in
    let K : SettlerState → Type 0 = λ s. s.start ≡ start → AreMoved c.moves.result old s.score.plies → KeepsCourse c.go_on-moved.new.self start s.score.plies in
    let M : SettlerState → Type 0 = λ s. s.start ≡ start → AreMoved c.moves.result old s.score.plies → TellsMove start added old s.score.plies c.go_on-moved.result in
    let course = subst K c.settler-settler.ensures.same (c.go_on-moved.ensures.keeps start old h.course) settled.start_is becoming in
    let moved = subst M c.settler-settler.ensures.same (c.go_on-moved.ensures.tells start old h.course) settled.start_is becoming in
    let told = c.told_of-told.result in
    let another : is_another c.args.sight ≡ true = sym c.is_another.ensures ∙ c.if-not-is_another.false in
    let new = sym shown.another_is ∙ another in
    let mask = c.differs-differs.result in
    let D : SettlerState → Type 0 = λ s. (seen : List ℕ) → s.last ≡ Some seen → IsDiff mask (picture (position_of s)) seen in
    let differs = (subst D c.settler-settler.ensures.same c.differs-differs.ensures) c.args.picture.now
    (settled.last ∙ last_is_new setting past event new ∙ ap (λ (seen : List ℕ). Some seen) (sym (shown.seen_is another))) in
    let here = ap (λ (p : Parts). picture (reached p (moves_of score.plies))) settled.start_is ∙ sym course.here_is in
    let H : List ℕ → Type 0 = λ board. IsDiff mask board c.args.picture.now in
    let P : List ℕ → Type 0 = λ seen. TellsPicture start added old score.plies c.args.self.now.result c.args.outcome seen told in
    let tells = subst P (shown.seen_is another) (c.told_of-told.ensures start old score.plies course moved (subst H here differs)) in
    let heard = listened added c.args.when.at c.args.bytes h.told in
    let now = with_picture c.args.when.at c.args.bytes told heard in
    let T : Bool → Type 0 = λ given. TellsEvent given setting past c.args.when.at added c.args.bytes event h.told now in
    on_ok_weaker c.take_picture.result (λ judged. record {
      valid = h.valid;
      told = now;
      score = score;
      tells = (
        h.told,
        h.tells,
        subst T (sym another ∙ shown.another_is) (
          told,
          record {
            before = h.score;
            after = score;
            old = c.args.self.now.result;
            new = c.args.outcome;
            folds_before = h.folds;
            folds = settled.folds;
            old_is = h.result_is;
            new_is = outcome;
            tells = tells;
          },
          refl,
        ),
      );
      folds = settled.folds;
      judged = judged;
      course = course;
      result_is = outcome;
      counted = refl;
    }) (c.take_picture.ensures heard (c.in_ok-listen.ensures h.told h.judged))
