use Rattle.std.proofs.Common.{◌≡◌, ◌∷◌, Bool, Some, subst, ◌∙◌, rules}
use Prim.{search}
use Rattle.chess_rules.specs.declared.parts.Parts.{Parts}
use Rattle.chess_rules.specs.Picture.{picture}
use Rattle.settle_core.specs.Folding.{moves_of}
use Rattle.settle_core.specs.Masks.{IsDiff}
use Rattle.settle_core.specs.Settling.{reached}
use Rattle.board_events.specs.History.{picture_of}
use Rattle.board_alarms.specs.Hearing.{AreMoved}
use Rattle.board_game.specs.declared.pictures.Shown.{Shown}
use Rattle.board_game.specs.Inside.Shown.{IsShown}
use Rattle.board_game.proofs.ShownLemmas.{entry_shows}
use Rattle.board_game.proofs.telling.picture_heard.Goals as goal

pub returns-then-moves : goal.returns-then-moves
returns-then-moves c = λ setting past event before settles folds shown.
    let S : Shown → Type 0 = λ s. IsShown setting past event s in
    let is = subst S c.in-Another.is shown in
    let M : Bool → Type 0 = λ b. AreMoved b before.plies c.args.settler.now.score.plies in
    (is.0, subst M c.if-moves.true (is.3 before c.args.settler.now.score folds settles.folds))

pub returns-else-moves : goal.returns-else-moves
returns-else-moves c = λ setting past event before settles folds shown.
    let S : Shown → Type 0 = λ s. IsShown setting past event s in
    let is = subst S c.in-Another.is shown in
    let score = c.args.settler.now.score in
    let M : Bool → Type 0 = λ b. AreMoved b before.plies score.plies in
    let same : score.plies ≡ before.plies = subst M c.if-moves.false (is.3 before score folds settles.folds) in
    let seen = picture_of setting.rotated (event ∷ past) in
    let last : c.args.settler.now.last ≡ Some seen = settles.last ∙ entry_shows setting.first setting.rotated past event (is.0).entry in
    let P : Parts → Type 0 = λ s. IsDiff c.differs-differs.result (picture (reached s (moves_of score.plies))) seen in (
      is.0,
      same,
      record {
        differs = record { fits = search rules; differ = subst P settles.start_is (c.differs-differs.ensures seen last) };
        changed = is.1;
        turned = is.2;
      },
    )
