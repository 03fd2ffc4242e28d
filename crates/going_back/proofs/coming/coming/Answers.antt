use Rattle.std.proofs.Common.{◌≡◌, ◌∙◌, ◌+◌, ◌++◌, ◌∷◌, [], List, ℕ, length, take, sym, ap, subst, arith, rules}
use Rattle.std.proofs.lemmas.List.{length-take-le, take_more}
use Rattle.chess_rules.specs.declared.chess_move.Move.{Move}
use Rattle.settle_core.specs.declared.plies.Ply.{Ply}
use Rattle.going_back.specs.Coming.{Comes}
use Rattle.going_back.proofs.ComingLemmas.{ComesAt, comes_more}
use Rattle.going_back.proofs.coming.coming.Goals as goal

pub loop-mv-preserved : goal.loop-mv-preserved
loop-mv-preserved c =
    let l = c.loop-mv in
    let went = c.args.went.now in
    let moves = c.args.moves.now in
    let count = l.invariant.count in
    let m = c.mv-item.result in
    let ply = c.ply_for.result in
    let front = take l.mv-index moves in
    let long : length front ≡ l.mv-index = length-take-le l.mv-index moves (omega arith) in
    let P : ℕ → Type 0 = λ n. ComesAt went n m ply in
    let M : Move → Type 0 = λ n. ComesAt went l.place n ply in
    let here : ComesAt went (length front) m ply = subst P (count ∙ sym long) (subst M c.copy.ensures c.ply_for.ensures) in
    let more = comes_more went front l.plies.items m ply l.invariant.come here in
    let pushed : c.push.new.self.items ≡ l.plies.items ++ ply ∷ [] = search rules in
    let taken : take (l.mv-index + 1) moves ≡ front ++ m ∷ [] = take_more moves l.mv-index m (omega arith) ∙ ap (λ (x : Move). front ++ x ∷ []) (sym c.mv-item.is) in
    let C : List Move → Type 0 = λ ms. Comes went ms c.push.new.self.items in
    let D : List Ply → Type 0 = λ xs. Comes went (front ++ m ∷ []) xs in
    record {
      count = omega (arith, count);
      come = subst C (sym taken) (subst D (sym pushed) more);
    }
