use Rattle.std.proofs.Common.{◌≡◌, ◌∙◌, ◌+◌, ◌*◌, ◌/◌, ◌%◌, ℕ, ap, arith, slice_set}
use Rattle.chess_text.specs.KeptRanks.{codes_in}
use Rattle.chess_text.proofs.KeptLemmas.{rank_changed}
use Rattle.chess_text.proofs.placement_text.PlacementText.change.Goals as goal

pub returns : goal.returns
returns c =
    let square = c.args.square in
    let ranks = c.args.self.now.ranks in
    let place : 8 * (square / 8) + square % 8 ≡ square = omega arith in
    ap (λ l. codes_in (slice_set l (square / 8) c.rank_of.result)) c.rank_of.ensures.ranks
    ∙ rank_changed ranks (square / 8) (square % 8) c.args.code c.index-self-rank.result c.rank_of.result (omega (arith, c.args.self.now.eight)) (omega arith) c.rank_of.ensures.codes
    ∙ ap (λ (n : ℕ). slice_set (codes_in ranks) n c.args.code) place
