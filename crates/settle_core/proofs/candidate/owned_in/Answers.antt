use Rattle.std.proofs.Common.{sym, ap, ◌∙◌, arith}
use Rattle.std.specs.Int.{bit_at}
use Rattle.settle_core.proofs.Gone.{owned_here, owned_more, owned_start, unowned_here}
use Rattle.settle_core.proofs.candidate.owned_in.Goals.{then-is_owned, else-is_owned}
use Rattle.settle_core.proofs.candidate.owned_in.Goals as goal

pub loop-square-init : goal.loop-square-init
loop-square-init c s low = owned_start c.args.side c.args.picture.now s

pub loop-square-preserved : goal.loop-square-preserved
loop-square-preserved c s low = elim c.if-is_owned.branch [
  | then-is_owned w ↦
      owned_more c.args.side c.args.picture.now c.loop-square.owned c.if-is_owned.owned c.loop-square.square s
      (λ ne. ap (λ n. bit_at n s) w.owned-is ∙ w.with-owned.ensures.others s low ne)
      (λ e. owned_here c.args.side c.args.picture.now c.if-is_owned.owned c.loop-square.square s e (ap (λ n. bit_at n c.loop-square.square) w.owned-is ∙ w.with-owned.ensures.set)
      (sym c.is_owned.ensures ∙ w.if-is_owned.true))
      (c.loop-square.invariant s low)
  | else-is_owned w ↦
      owned_more c.args.side c.args.picture.now c.loop-square.owned c.if-is_owned.owned c.loop-square.square s
      (λ ne. ap (λ n. bit_at n s) w.owned-is)
      (λ e. unowned_here c.args.side c.args.picture.now c.loop-square.owned c.if-is_owned.owned c.loop-square.square s e w.owned-is (sym c.is_owned.ensures ∙ w.if-is_owned.false)
      (c.loop-square.invariant s low))
      (c.loop-square.invariant s low)
]

pub returns : goal.returns
returns c s low =
    let h = c.loop-square.invariant s low in
    (λ one. (let both = h.0 one in both.1), λ owns. h.1 ((omega (arith, low, c.loop-square-test.false)), owns))
