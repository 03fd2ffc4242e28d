use Rattle.std.proofs.Common.{◌≡◌, ◌<◌, ◌≤◌, count_ones, sym, ap, subst, ◌∙◌, arith}
use Rattle.chess_rules.specs.Board.{other as other_side}
use Rattle.std.proofs.lemmas.Bool.{both_ways}
use Rattle.chess_rules.specs.declared.pieces.Side.{Side}
use Rattle.chess_rules.specs.declared.parts.Parts.{Parts}
use Rattle.settle_core.specs.Lost.{Loses}
use Rattle.unseen_pairs.proofs.Counting.{two_change}
use Rattle.unseen_pairs.proofs.Losing.{mover_loses, other_loses}
use Rattle.unseen_pairs.proofs.explaining.may_be_explained.Goals as goal

pub returns-then-has_more : goal.returns-then-has_more
returns-then-has_more c = λ m n two.
    let few : count_ones c.diff_mask.result ≤ 8 =
    two_change c.args.p.now m n c.picture-before.result c.args.seen.now c.diff_mask.result c.parts.ensures.valid two c.picture-before.ensures.shown
    c.has_more.ensures.fits c.diff_mask.ensures in
    let many : 8 < count_ones c.diff_mask.result = c.has_more.ensures.more c.if-has_more.true in
    absurd (let never : ⊥ = omega arith in never)

pub returns-then-not-loses : goal.returns-then-not-loses
returns-then-not-loses c = λ m n two.
    let l = c.loses.ensures in
    let L : Parts → Type 0 = λ (p : Parts). Loses c.args.p.now c.args.seen.now p.side in
    absurd (both_ways _ c.if-not-loses.true (l.1 (subst L (sym c.parts.ensures.same) (mover_loses c.args.p.now m n c.args.seen.now c.parts.ensures.valid two))))

pub returns : goal.returns
returns c = λ m n two.
    let l = c.loses-2.ensures in
    let L : Side → Type 0 = λ (side : Side). Loses c.args.p.now c.args.seen.now side in
    let e : c.other.result ≡ other_side c.args.p.now.side = c.other.ensures ∙ ap (λ (p : Parts). other_side p.side) c.parts.ensures.same in
    l.1 (subst L (sym e) (other_loses c.args.p.now m n c.args.seen.now c.parts.ensures.valid two))
