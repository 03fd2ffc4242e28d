-- How a placement is read.
use Rattle.std.specs.Prelude.{ℕ, [], ◌∷◌, Option, None, slice_index_or}
use Rattle.chess_rules.specs.declared.pieces.Side.TheVariants.{White, Black}
use Rattle.chess_rules.specs.declared.pieces.Kind.TheVariants.{Pawn, Rook, Knight, Bishop, King, Queen}
use Rattle.chess_rules.specs.declared.pieces.Piece.{Piece}
use Rattle.chess_rules.specs.Board.{piece_of}

-- what a code stands for
abbrev pub decode : ℕ → Option Piece
decode c =
    slice_index_or (None ∷ piece_of White Pawn ∷ piece_of White Rook ∷ piece_of White Knight ∷ piece_of White Bishop ∷ piece_of White King
    ∷ piece_of White Queen ∷ piece_of Black Pawn ∷ piece_of Black Rook ∷ piece_of Black Knight
    ∷ piece_of Black Bishop ∷ piece_of Black King ∷ piece_of Black Queen ∷ []) c None
