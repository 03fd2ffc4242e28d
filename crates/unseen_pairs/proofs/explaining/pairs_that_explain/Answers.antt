use Rattle.std.proofs.Common.{sym, subst, ◌≡◌, ◌≤◌, arith, List, ℕ}
use Rattle.chess_rules.specs.declared.chess_move.Move.{Move}
use Rattle.unseen_pairs.specs.Inside.Beginning.{ListsFirst}
use Rattle.unseen_pairs.proofs.Adding.{lists_more, lists_all, legal_at}
use Rattle.unseen_pairs.proofs.explaining.pairs_that_explain.Goals as goal

pub push_pair_with-requires-clause-first : goal.push_pair_with-requires-clause-first
push_pair_with-requires-clause-first c =
    let L : List Move → Type 0 = λ xs. ListsFirst c.args.p.now c.args.seen.now xs in
    legal_at c.args.p.now c.args.seen.now c.as_slice-first-items.result.now c.loop-first.first-index c.first-item.result
    (subst L (sym c.as_slice-first-items.ensures.value) c.in_ok-moves.ensures) c.loop-first-test.true c.first-item.is

pub loop-first-preserved : goal.loop-first-preserved
loop-first-preserved c =
    lists_more c.args.p.now c.args.seen.now c.first-item.result c.as_slice-first-items.result.now c.loop-first.first-index c.loop-first.pairs.items c.push_pair_with.new.pairs.items
    c.loop-first-test.true c.first-item.is c.loop-first.invariant c.in_ok-push_pair_with.ensures

same_end : (i n : ℕ) → i ≤ n → n ≤ i → i ≡ n
same_end i n a b = omega arith

pub returns : goal.returns
returns c =
    let L : List Move → Type 0 = λ xs. ListsFirst c.args.p.now c.args.seen.now xs in
    lists_all c.args.p.now c.args.seen.now c.as_slice-first-items.result.now c.loop-first.first-index c.loop-first.pairs.items
    (subst L (sym c.as_slice-first-items.ensures.value) c.in_ok-moves.ensures)
    (same_end _ _ c.loop-first.auto.first-index-end c.loop-first-test.false) c.loop-first.invariant
