-- The piece codes of the DGT Electronic Board.
use Rattle.std.specs.Prelude.{ℕ, List, Option, Some, None, map}
use Rattle.chess_rules.specs.declared.pieces.Side.{Side}
use Rattle.chess_rules.specs.declared.pieces.Side.TheVariants.{White, Black}
use Rattle.chess_rules.specs.declared.pieces.Kind.{Kind}
use Rattle.chess_rules.specs.declared.pieces.Kind.TheVariants.{Pawn, Rook, Knight, Bishop, King, Queen}
use Rattle.chess_rules.specs.declared.pieces.Piece.{Piece}
use Rattle.chess_rules.specs.declared.parts.Parts.{Parts}

-- a piece's code
abbrev pub code_of_piece : Side → Kind → ℕ
code_of_piece White Pawn = 1
code_of_piece White Rook = 2
code_of_piece White Knight = 3
code_of_piece White Bishop = 4
code_of_piece White King = 5
code_of_piece White Queen = 6
code_of_piece Black Pawn = 7
code_of_piece Black Rook = 8
code_of_piece Black Knight = 9
code_of_piece Black Bishop = 10
code_of_piece Black King = 11
code_of_piece Black Queen = 12

-- a square's code, 0 where nothing stands
abbrev pub code : Option Piece → ℕ
code None = 0
code (Some piece) = code_of_piece piece.side piece.kind

-- the 64 codes of the position's board, by square number
abbrev pub picture : Parts → List ℕ
picture p = map code p.board
