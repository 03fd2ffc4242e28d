use Rattle.std.proofs.Common.{◌++◌, ℕ, List, Bool, Option, sym, subst, ap}
use Rattle.std.proofs.lemmas.Result.{on_ok_weaker}
use Rattle.recovery.specs.declared.keeper.Keeper.{Keeper}
use Rattle.board_game.specs.History.{Finds}
use Rattle.board_game.specs.Inside.Telling.{HasKept}
use Rattle.board_game.proofs.following.keep.Goals as goal

pub returns-in_ok-flush-in-Some : goal.returns-in_ok-flush-in-Some
returns-in_ok-flush-in-Some c = λ setting recovers past written h.
    let K : Option Keeper → Type 0 = λ k. HasKept k setting recovers past written in
    let k = subst K c.in-Some.is h in
    on_ok_weaker c.hear.result (λ t. (
      c.hear.new.line.items,
      ap (λ (l : List ℕ). l ++ c.hear.new.line.items) c.in_ok-flush-in-Some.ensures.same,
      record {
        found = t.found;
        finds = subst (λ (r : Bool). Finds setting r past c.args.event.now t.found) (sym k.0) t.finds;
        keeps = (k.0, t.carries);
        adds = t.adds;
      },
    )) (c.hear.ensures.heard setting past written k.1)
