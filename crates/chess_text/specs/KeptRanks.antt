-- The picture of a placement whose ranks are kept.
use Rattle.std.specs.Prelude.{ℕ, List}
use Rattle.std.specs.List.{flat_map}
use Rattle.chess_text.specs.declared.rank_text.RankText.{RankText}
use Rattle.chess_text.specs.declared.placement_text.PlacementText.{PlacementText}

-- the codes of its ranks, one after the other
abbrev pub codes_in : List RankText → List ℕ
codes_in ranks = flat_map (λ rank. rank.codes) ranks

abbrev pub picture_in : PlacementText → List ℕ
picture_in kept = codes_in kept.ranks
