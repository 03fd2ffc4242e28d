-- The text of a square. A text is its list of bytes; what each number means stands beside it.
use Rattle.std.specs.Prelude.{ℕ, ◌+◌, ◌-◌, List, [], ◌∷◌}
use Rattle.chess_rules.specs.Board.{file, row}

-- a to h, and 1 to 8
abbrev pub file_byte : ℕ → ℕ
file_byte s = 97 + file s

abbrev pub rank_byte : ℕ → ℕ
rank_byte s = 56 - row s

abbrev pub square_text : ℕ → List ℕ
square_text s = file_byte s ∷ rank_byte s ∷ []
