-- The lines of `pictures`: one for each picture that differs from the one before.
use Rattle.std.specs.Prelude.{ℕ, List, ◌++◌, codes}
use Rattle.chess_text.specs.Placement.{placement}

-- the placement of a picture, as a line
abbrev pub placement_line : List ℕ → List ℕ
placement_line picture = placement picture ++ codes "\n"
