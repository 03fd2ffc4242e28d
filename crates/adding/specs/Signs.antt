-- The kings' sign of a result: the picture of a position, both kings in the centre, on light squares where White wins,
-- on dark ones where Black does, White's on a light and Black's on a dark one for a draw.
use Rattle.std.specs.Prelude.{ℕ, ◌==◌, ◌||◌, List, map, slice_set, if◌then◌else◌}
use Rattle.settle_core.specs.declared.plies.Outcome.{Outcome}
use Rattle.settle_core.specs.declared.plies.Outcome.TheVariants.{WhiteWins, BlackWins, Drawn}
use Rattle.settle_core.specs.Sign.{d4, d5, e4, e5}

-- White's king stands on e4 or d4, Black's on d5 or e5
abbrev pub white_square : Outcome → ℕ
white_square WhiteWins = e4
white_square BlackWins = d4
white_square Drawn = e4

abbrev pub black_square : Outcome → ℕ
black_square WhiteWins = d5
black_square BlackWins = e5
black_square Drawn = e5

-- no king: 5 is the code of White's, 11 that of Black's
abbrev pub without_king : ℕ → ℕ
without_king code = if code == 5 || code == 11 then 0 else code

abbrev pub sign_picture : Outcome → List ℕ → List ℕ
sign_picture outcome picture = slice_set (slice_set (map without_king picture) (white_square outcome) 5) (black_square outcome) 11
