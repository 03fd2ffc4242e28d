use Rattle.std.proofs.Common.{◌≡◌, ◌∷◌, Option, subst, ap, ◌∙◌}
use Rattle.settle_core.specs.declared.plies.Outcome.{Outcome}
use Rattle.settle_core.specs.Entries.{deduplicated}
use Rattle.settle_core.specs.Folding.{Folds}
use Rattle.settle_core.specs.Settler.{HasSettled, SettlerState}
use Rattle.board_events.specs.Session.{entries_in}
use Rattle.board_events.specs.States.{State}
use Rattle.board_game.specs.Hearing.{HearsPicture, HearsResult}
use Rattle.board_game.specs.Inside.Shown.{IsShown}
use Rattle.board_game.proofs.TakeLemmas.{result_of}
use Rattle.board_game.proofs.telling.hear.Goals as goal

pub returns : goal.returns
returns c = λ setting past event before heard watched folds was shown stands.
    let watcher = c.args.watcher.now in
    let settler = watcher.follower.session.settler in
    let settled = watched.followed.stands.settler in
    let same : c.settler-settler.result.now ≡ settler = c.settler-settler.ensures.same ∙ ap (λ (s : State). s.settler) c.session.ensures in
    let H : SettlerState → Type 0 = λ s. HasSettled s setting.start (entries_in setting (event ∷ past)) → Folds setting.start (deduplicated (entries_in setting past)) before
    → IsShown setting past event c.args.shown → HearsPicture setting past event before s.score c.picture_heard-picture.result in
    let picture = subst H same (c.picture_heard-picture.ensures setting past event before) in
    let R : Option Outcome → Type 0 = λ o. HearsResult c.args.old o c.result_heard-ended.result in (
      c.picture_heard-picture.result,
      c.result_heard-ended.result,
      record {
        before = before;
        after = settler.score;
        old = c.args.old;
        new = watcher.follower.told;
        folds_before = folds;
        folds = settled.folds;
        old_is = was;
        new_is = result_of watcher setting (event ∷ past) watched;
        shown_is = picture settled folds shown;
        ended_is = subst R c.result.ensures c.result_heard-ended.ensures;
      },
      c.tell-2.ensures _ (c.tell.ensures heard stands),
    )
