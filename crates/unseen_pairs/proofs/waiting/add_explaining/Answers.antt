use Rattle.std.proofs.Common.{◌≡◌, ◌≤◌, ◌↔◌, ℕ, List, Contains, sym, subst, arith}
use Rattle.unseen_pairs.specs.declared.pair.TwoPlies.{TwoPlies}
use Rattle.unseen_pairs.specs.Pairs.{IsAfterTwo}
use Rattle.unseen_pairs.proofs.Aging.{added_more, added_all}
use Rattle.unseen_pairs.proofs.waiting.add_explaining.Goals as goal

pub candidate_of-requires-clause-first : goal.candidate_of-requires-clause-first
candidate_of-requires-clause-first c =
    let L : List TwoPlies → Type 0 = λ xs. (x : TwoPlies) → Contains xs x ↔ IsAfterTwo c.args.p.now c.args.picture.now x.first x.second in
    let each = subst L (sym c.as_slice-two-items.ensures.value) c.in_ok-pairs.ensures c.two-item.result in
    let two = each.0 (c.loop-two.two-index, c.loop-two-test.true, sym c.two-item.is) in
    two.first

pub candidate_of-requires-clause-second : goal.candidate_of-requires-clause-second
candidate_of-requires-clause-second c =
    let L : List TwoPlies → Type 0 = λ xs. (x : TwoPlies) → Contains xs x ↔ IsAfterTwo c.args.p.now c.args.picture.now x.first x.second in
    let each = subst L (sym c.as_slice-two-items.ensures.value) c.in_ok-pairs.ensures c.two-item.result in
    let two = each.0 (c.loop-two.two-index, c.loop-two-test.true, sym c.two-item.is) in
    two.second

pub loop-two-preserved : goal.loop-two-preserved
loop-two-preserved c =
    added_more c.args.corrects c.args.p.now c.args.reading.now c.as_slice-two-items.result.now c.loop-two.two-index c.args.candidates.now.items c.loop-two.candidates.items c.push.new.self.items c.two-item.result c.candidate_of.result
    c.loop-two-test.true c.two-item.is c.candidate_of.ensures c.in_ok-push.ensures.items c.loop-two.invariant

same_end : (i n : ℕ) → i ≤ n → n ≤ i → i ≡ n
same_end i n a b = omega arith

pub returns : goal.returns
returns c =
    let L : List TwoPlies → Type 0 = λ xs. (x : TwoPlies) → Contains xs x ↔ IsAfterTwo c.args.p.now c.args.picture.now x.first x.second in
    added_all c.args.corrects c.args.p.now c.args.picture.now c.args.reading.now c.as_slice-two-items.result.now c.loop-two.two-index c.args.candidates.now.items c.loop-two.candidates.items
    (same_end _ _ c.loop-two.auto.two-index-end c.loop-two-test.false) (subst L (sym c.as_slice-two-items.ensures.value) c.in_ok-pairs.ensures) c.loop-two.invariant
