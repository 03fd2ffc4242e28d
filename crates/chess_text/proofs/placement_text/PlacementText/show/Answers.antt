use Rattle.std.proofs.Common.{◌≡◌, ◌∙◌, ◌+◌, ◌-◌, ◌*◌, ℕ, ap, arith, slice_set, take, drop}
use Rattle.chess_text.specs.KeptRanks.{codes_in}
use Rattle.chess_text.proofs.KeptLemmas.{show_more}
use Rattle.chess_text.proofs.placement_text.PlacementText.show.Goals as goal

pub loop-rank-preserved : goal.loop-rank-preserved
loop-rank-preserved c =
    let k = c.loop-rank.rank in
    let ranks = c.loop-rank.self.ranks in
    let picture = c.args.picture.now in
    let eight : 8 * k + 8 - 8 * k ≡ 8 = omega arith in
    ap (λ l. codes_in (take (k + 1) (slice_set l k c.rank_of.result))) c.rank_of.ensures.ranks
    ∙ show_more ranks k c.rank_of.result picture (omega (arith, c.loop-rank.self.eight)) (c.rank_of.ensures.codes ∙ c.copy_from_slice.ensures.after ∙ ap (λ (n : ℕ). take n (drop (8 * k) picture)) eight) c.loop-rank.invariant
