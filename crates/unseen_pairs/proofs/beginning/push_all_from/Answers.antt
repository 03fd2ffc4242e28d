use Rattle.std.proofs.Common.{◌≡◌, ◌<◌, ◌+◌, ℕ, inl, inr, arith}
use Rattle.std.proofs.lemmas.Bool.{cases_eq}
use Rattle.chess_rules.specs.declared.chess_move.Move.{Move}
use Rattle.unseen_pairs.proofs.Adding.{adds_both, adds_fewer, adds_no_move}
use Rattle.unseen_pairs.proofs.beginning.push_all_from.Goals as goal

abbrev Below : ℕ → ℕ → Move → Type 0
Below from to m = (m.from ≡ from) × (m.to < to)

pub loop-to-init : goal.loop-to-init
loop-to-init c = adds_no_move c.args.p.now (Below c.args.from 0) c.args.moves.now.items (λ m these l. let low : m.to < 0 = these.1 in omega arith)

pub loop-to-preserved : goal.loop-to-preserved
loop-to-preserved c =
    let to : ℕ = c.loop-to.to in
    adds_both c.args.p.now (Below c.args.from to) (λ m. (m.from ≡ c.args.from) × (m.to ≡ to)) (Below c.args.from (to + 1))
    c.args.moves.now.items c.loop-to.moves.items c.push_each.new.moves.items c.loop-to.invariant c.in_ok-push_each.ensures
    (λ m l these. let low : m.to < to + 1 = these.1 in elim (cases_eq m.to to) [ inl e ↦ inr (these.0, e) | inr ne ↦ inl (these.0, let less : m.to < to = omega arith in less) ])

pub returns : goal.returns
returns c =
    adds_fewer c.args.p.now (Below c.args.from c.loop-to.to) (λ m. m.from ≡ c.args.from) c.args.moves.now.items c.loop-to.moves.items c.loop-to.invariant
    (λ m l these. (these, let low : m.to < 64 = l.on_board in let over = c.loop-to-test.false in omega arith))
