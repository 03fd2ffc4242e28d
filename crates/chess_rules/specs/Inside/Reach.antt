-- What the squares of a move must be to one another, whatever else stands on the board.
use Rattle.std.specs.Prelude.{◌≡◌, ◌⊎◌, ℕ, ◌<◌}
use Rattle.chess_rules.specs.declared.pieces.Side.{Side}
use Rattle.chess_rules.specs.declared.pieces.Kind.{Kind}
use Rattle.chess_rules.specs.declared.pieces.Kind.TheVariants.{Pawn, Rook, Knight, Bishop, King, Queen}
use Rattle.chess_rules.specs.Board.{row, last_row}

-- by how many files and rows a piece goes
abbrev pub MayReach : Kind → ℕ → ℕ → Type 0
MayReach Rook files rows = (files ≡ 0) ⊎ (rows ≡ 0)
MayReach Bishop files rows = files ≡ rows
MayReach Queen files rows = (files ≡ 0) ⊎ ((rows ≡ 0) ⊎ (files ≡ rows))
MayReach Knight files rows = ((files ≡ 1) × (rows ≡ 2)) ⊎ ((files ≡ 2) × (rows ≡ 1))
MayReach King files rows = (files < 3) × (rows < 2)
MayReach Pawn files rows = (files < 2) × (rows < 3)

-- such a piece is promoted on this square
abbrev pub MayPromote : Side → Kind → ℕ → Type 0
MayPromote side kind to = (kind ≡ Pawn) × (row to ≡ last_row side)
