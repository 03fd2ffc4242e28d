-- The board (Article 2 of the FIDE Laws of Chess): squares, pieces, and how squares lie to one another.
use Rattle.std.specs.Prelude.{◌≡◌, ℕ, ◌+◌, ◌/◌, ◌%◌, List, Option, Some, None, slice_index_or}
use Rattle.chess_rules.specs.declared.pieces.Side.{Side}
use Rattle.chess_rules.specs.declared.pieces.Side.TheVariants.{White, Black}
use Rattle.chess_rules.specs.declared.pieces.Kind.{Kind}
use Rattle.chess_rules.specs.declared.pieces.Piece.{Piece}
use Rattle.chess_rules.specs.declared.lines.Direction.{Direction}
use Rattle.chess_rules.specs.declared.lines.Direction.TheVariants.{North, South, East, West, NorthEast, NorthWest, SouthEast, SouthWest}

-- A board is what stands on each of its 64 squares, in reading order from a8 to h1. A square is its number.
abbrev pub Board : Type 0
Board = List (Option Piece)

-- what stands on a square
abbrev pub on : Board → ℕ → Option Piece
on board s = slice_index_or board s None

-- a piece of this side and kind
abbrev pub piece_of : Side → Kind → Option Piece
piece_of side kind = Some (record { side = side; kind = kind })

abbrev pub other : Side → Side
other White = Black
other Black = White

-- the file, 0 for a to 7 for h
abbrev pub file : ℕ → ℕ
file s = s % 8

-- the row from the top, 0 for rank 8 to 7 for rank 1
abbrev pub row : ℕ → ℕ
row s = s / 8

-- The square t lies n squares from s in this direction. North is towards rank 8, east towards the h-file.
abbrev pub Ahead : Direction → ℕ → ℕ → ℕ → Type 0
Ahead North n s t = (file t ≡ file s) × (row t + n ≡ row s)
Ahead South n s t = (file t ≡ file s) × (row t ≡ row s + n)
Ahead East n s t = (file t ≡ file s + n) × (row t ≡ row s)
Ahead West n s t = (file t + n ≡ file s) × (row t ≡ row s)
Ahead NorthEast n s t = (file t ≡ file s + n) × (row t + n ≡ row s)
Ahead NorthWest n s t = (file t + n ≡ file s) × (row t + n ≡ row s)
Ahead SouthEast n s t = (file t ≡ file s + n) × (row t ≡ row s + n)
Ahead SouthWest n s t = (file t + n ≡ file s) × (row t ≡ row s + n)

-- where a side's pawns go (Article 3.7.1)
abbrev pub forward : Side → Direction
forward White = North
forward Black = South

-- the row where a side's pawns begin (Article 2.3), and the one furthest from it, where they are promoted (Article 3.7)
abbrev pub second_row : Side → ℕ
second_row White = 6
second_row Black = 1

abbrev pub last_row : Side → ℕ
last_row White = 0
last_row Black = 7
