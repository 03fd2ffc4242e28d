use Rattle.std.proofs.Common.{◌≡◌, ℕ, List, [], inl, inr, sym, ap, subst, arith, ◌∙◌}
use Rattle.std.specs.Int.{bit_at}
use Rattle.std.proofs.lemmas.Bool.{cases_eq}
use Rattle.std.proofs.lemmas.Nat.Bits.{bit_at-zero}
use Rattle.chess_rules.specs.declared.chess_move.Move.{Move}
use Rattle.settle_core.specs.Masks.{IsDiff}
use Rattle.unseen_pairs.specs.Inside.Beginning.{Begins}
use Rattle.unseen_pairs.proofs.Adding.{adds_both, adds_fewer}
use Rattle.unseen_pairs.proofs.Landing.{all_listed, first_differs}
use Rattle.unseen_pairs.proofs.beginning.first_plies.Goals as goal

pub squares-preserved : goal.squares-preserved
squares-preserved c =
    let p = c.args.p.now in
    let seen = c.args.seen.now in
    let mask : ℕ = c.diff_mask-mask.result in
    let from : ℕ = c.first_square-from.result in
    let Before : Move → Type 0 = λ m. Begins p seen m × (bit_at mask m.from ≡ 1) × (bit_at c.squares.rest m.from ≡ 0) in
    let Here : Move → Type 0 = λ m. (m.from ≡ from) × Begins p seen m in
    let Now : Move → Type 0 = λ m. Begins p seen m × (bit_at mask m.from ≡ 1) × (bit_at c.without-rest.result m.from ≡ 0) in
    let D : List ℕ → Type 0 = λ before. IsDiff mask before seen in
    let among = c.first_targets-targets.ensures (subst D c.requires c.diff_mask-mask.ensures) in
    adds_both p Before Here Now [] c.squares.moves.items c.push_first.new.moves.items c.squares.invariant (c.in_ok-push_first.ensures among)
    (λ m l now. elim (cases_eq m.from from) [
      | inl e ↦ inr (e, now.0)
      | inr ne ↦
          let d = first_differs p m now.0.0 seen c.parts.ensures.valid now.0.1 in
          inl (now.0, now.1, sym (c.without-rest.ensures.others m.from d.0 ne) ∙ now.2)
    ])

pub returns : goal.returns
returns c =
    let p = c.args.p.now in
    let seen = c.args.seen.now in
    let mask : ℕ = c.diff_mask-mask.result in
    let none : c.squares.rest ≡ 0 = let over = c.squares-test.false in omega arith in
    let D : List ℕ → Type 0 = λ before. IsDiff mask before seen in
    all_listed p seen mask c.squares.moves.items c.parts.ensures.valid (subst D c.requires c.diff_mask-mask.ensures)
    (adds_fewer p (λ m. Begins p seen m × (bit_at mask m.from ≡ 1) × (bit_at c.squares.rest m.from ≡ 0)) (λ m. Begins p seen m × (bit_at mask m.from ≡ 1))
    [] c.squares.moves.items c.squares.invariant (λ m l these. (these.0, these.1, ap (λ (x : ℕ). bit_at x m.from) none ∙ bit_at-zero m.from)))
