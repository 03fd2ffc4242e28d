use Rattle.std.proofs.Common.{◌≡◌, ◌≤◌, ◌↔◌, arith, Contains, List, ℕ, refl, sym, subst}
use Rattle.unseen_pairs.specs.declared.pair.TwoPlies.{TwoPlies}
use Rattle.unseen_pairs.specs.Pairs.{IsAfterTwo}
use Rattle.unseen_pairs.proofs.SomePair.{all_begin_so, one_more}
use Rattle.unseen_pairs.proofs.explained.is_begun_otherwise.Goals as goal

pub pairs-preserved : goal.pairs-preserved
pairs-preserved c =
    let so = c.is_move.ensures.0 (let no = c.if-not-is_move.false in cc) in
    one_more c.as_slice-two-items.result.now c.args.last.now c.pairs.two-index c.two-item.result c.pairs-test.true c.two-item.is so c.pairs.invariant

pub returns-then-not-is_move : goal.returns-then-not-is_move
returns-then-not-is_move c =
    let L : List TwoPlies → Type 0 = λ xs. (x : TwoPlies) → Contains xs x ↔ IsAfterTwo c.args.p.now c.args.seen.now x.first x.second in
    let lists = subst L (sym c.as_slice-two-items.ensures.value) c.in_ok-pairs.ensures in
    let two = c.two-item.result in (
      λ t. record {
        first = two.first;
        second = two.second;
        after_two = (lists two).0 (c.pairs.two-index, c.pairs-test.true, sym c.two-item.is);
        otherwise = λ e. absurd (let a = c.is_move.ensures.1 e in let b = c.if-not-is_move.true in cc);
      },
      λ h. refl,
    )

same_end : (i n : ℕ) → i ≤ n → n ≤ i → i ≡ n
same_end i n a b = omega arith

pub returns : goal.returns
returns c =
    let L : List TwoPlies → Type 0 = λ xs. (x : TwoPlies) → Contains xs x ↔ IsAfterTwo c.args.p.now c.args.seen.now x.first x.second in (
      λ t. absurd cc,
      λ h. absurd (all_begin_so c.args.p.now c.as_slice-two-items.result.now c.args.last.now c.args.seen.now c.pairs.two-index
          (same_end _ _ c.pairs.auto.two-index-end c.pairs-test.false) (subst L (sym c.as_slice-two-items.ensures.value) c.in_ok-pairs.ensures) c.pairs.invariant h),
    )
