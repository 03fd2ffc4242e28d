use Rattle.std.proofs.Common.{◌≡◌, ◌∙◌, ◌+◌, ◌-◌, ◌++◌, ◌≤◌, ap, arith, rules, length, get_or, slice_set}
use Prim.{search}
use Rattle.std.specs.List.{between}
use Rattle.std.proofs.lemmas.List.{length-set}
use Rattle.chess_text.proofs.KeptLemmas.{length_put, line_more, line_whole}
use Rattle.chess_text.proofs.placement_text.PlacementText.add_to.Goals as goal

pub loop-rank-preserved : goal.loop-rank-preserved
loop-rank-preserved g c =
    let ranks = c.args.self.now.ranks in
    let i = c.loop-rank.rank-index in
    let len = c.loop-rank.len in
    let rank = get_or ranks i c.rank-item.result in
    let line = c.loop-rank.line in
    let text = c.copy_from_slice.new.self in
    let eight : length ranks ≡ 8 = c.args.self.now.eight in
    let short = c.loop-rank.invariant.1 in
    let long = c.loop-rank.invariant.2 in
    let room : length rank.text ≡ 8 = rank.room in
    let fits : rank.len ≤ 8 = rank.short in
    let marked : length (slice_set line len 47) ≡ length line = length-set line len 47 in (
      line_more line text len i (len + 9 - (len + 1)) ranks c.rank-item.result (omega arith) (omega arith) c.copy_from_slice.ensures.after c.loop-rank.invariant.0,
      omega (arith, fits),
      length_put (len + 1) (len + 9 - (len + 1)) (slice_set line len 47) text (omega (arith, ap length c.copy_from_slice.ensures.after)) (omega arith) ∙ marked ∙ long,
    )

pub returns-clause-items : goal.returns-clause-items
returns-clause-items g c =
    let ranks = c.args.self.now.ranks in
    let eight : length ranks ≡ 8 = c.args.self.now.eight in
    let whole : c.try_extend_from_slice.new.self.items ≡ c.args.out.now.items ++ between 1 c.loop-rank.len c.loop-rank.line = search rules in
    whole ∙ ap (λ l. c.args.out.now.items ++ l) (line_whole c.loop-rank.line c.loop-rank.len c.loop-rank.rank-index ranks eight (omega (arith, c.loop-rank-test.false)) c.loop-rank.invariant.0)
