use Rattle.std.proofs.Common.{◌≡◌, ◌<◌, ℕ, None, inl, inr, sym, ap, arith, ◌∙◌}
use Rattle.std.specs.Int.{bit_at}
use Rattle.std.proofs.lemmas.Bool.{cases_eq}
use Rattle.std.proofs.lemmas.Nat.Bits.{bit_at-zero}
use Rattle.chess_rules.specs.declared.chess_move.Move.{Move}
use Rattle.unseen_pairs.specs.Inside.Beginning.{IsBetween}
use Rattle.unseen_pairs.proofs.Adding.{adds_both, adds_fewer, adds_no_move}
use Rattle.unseen_pairs.proofs.beginning.push_from.Goals as goal

abbrev Left : ℕ → ℕ → ℕ → Move → Type 0
Left from targets rest m = (m.promotion ≡ None) × (m.from ≡ from) × (m.to < 64) × (bit_at targets m.to ≡ 1) × (bit_at rest m.to ≡ 0)

pub squares-init : goal.squares-init
squares-init c = adds_no_move c.args.p.now (Left c.args.from c.args.targets c.args.targets) c.args.moves.now.items
    (λ m these l. let a : bit_at c.args.targets m.to ≡ 1 = these.3 in let b : bit_at c.args.targets m.to ≡ 0 = these.4 in omega arith)

pub squares-preserved : goal.squares-preserved
squares-preserved c =
    let from : ℕ = c.args.from in
    let to : ℕ = c.first_square-to.result in
    adds_both c.args.p.now (Left from c.args.targets c.squares.rest) (IsBetween from to None) (Left from c.args.targets c.without-rest.result)
    c.args.moves.now.items c.squares.moves.items c.push_between.new.moves.items c.squares.invariant c.in_ok-push_between.ensures
    (λ m l now. elim (cases_eq m.to to) [
      | inl e ↦ inr (now.0, now.1, e)
      | inr ne ↦ inl (now.0, now.1, now.2, now.3, sym (c.without-rest.ensures.others m.to now.2 ne) ∙ now.4)
    ])

pub returns : goal.returns
returns c =
    let none : c.squares.rest ≡ 0 = let over = c.squares-test.false in omega arith in
    adds_fewer c.args.p.now (Left c.args.from c.args.targets c.squares.rest)
    (λ m. (m.promotion ≡ None) × (m.from ≡ c.args.from) × (m.to < 64) × (bit_at c.args.targets m.to ≡ 1)) c.args.moves.now.items c.squares.moves.items c.squares.invariant
    (λ m l these. (these.0, these.1, these.2, these.3, ap (λ (x : ℕ). bit_at x m.to) none ∙ bit_at-zero m.to))
