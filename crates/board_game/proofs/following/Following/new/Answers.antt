use Rattle.std.proofs.Common.{[], Option, refl, sym, subst}
use Rattle.recovery.specs.declared.keeper.Keeper.{Keeper}
use Rattle.board_captures.specs.Reading.{setting_of}
use Rattle.board_game.specs.Inside.Telling.{HasKept}
use Rattle.board_game.proofs.following.Following.new.Goals.{then-method, else-method}
use Rattle.board_game.proofs.following.Following.new.Goals as goal

pub returns : goal.returns
returns c =
    let setting = setting_of c.args.method.now in
    let K : Option Keeper → Type 0 = λ keeper. HasKept keeper setting c.args.method.now.recovers [] [] in
    let keeps : HasKept c.if-method.keeper setting c.args.method.now.recovers [] [] = elim c.if-method.branch [
      | then-method w ↦ subst K (sym w.keeper-is) (w.if-method.true, record { keeps = w.new.ensures; alike = record { trust = refl; picture = refl; reading = refl } })
      | else-method w ↦ subst K (sym w.keeper-is) (w.if-method.false, refl)
    ] in
    record { keeps = keeps; told = c.new-2.ensures }
