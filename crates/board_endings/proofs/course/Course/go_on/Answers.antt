use Rattle.std.proofs.Common.{◌≡◌, Bool, List, sym, subst}
use Rattle.settle_core.specs.declared.plies.Ply.{Ply}
use Rattle.board_alarms.specs.Hearing.{AreMoved}
use Rattle.board_endings.specs.Keeping.{KeepsCourse}
use Rattle.board_endings.proofs.course.Course.go_on.Goals as goal

pub returns-then-not-moves-clause-keeps : goal.returns-then-not-moves-clause-keeps
returns-then-not-moves-clause-keeps c = λ start old keeps same moved.
    let plies = c.args.settler.now.score.plies in
    let M : Bool → Type 0 = λ b. AreMoved b old plies in
    let stay : plies ≡ old = subst M c.if-not-moves.true moved in
    let K : List Ply → Type 0 = λ plies. KeepsCourse c.args.self.now start plies in
    subst K (sym stay) keeps

pub returns-then-not-moves-clause-tells : goal.returns-then-not-moves-clause-tells
returns-then-not-moves-clause-tells c = λ start old keeps same moved.
    let M : Bool → Type 0 = λ b. AreMoved b old c.args.settler.now.score.plies in
    subst M c.if-not-moves.true moved

pub returns-clause-tells : goal.returns-clause-tells
returns-clause-tells c = λ start old keeps same moved.
    let M : Bool → Type 0 = λ b. AreMoved b old c.args.settler.now.score.plies in (
      subst M c.if-not-moves.false moved,
      c.move_to-played.ensures start old c.args.settler.now.score.plies keeps (c.after-next.ensures start old keeps same),
    )
