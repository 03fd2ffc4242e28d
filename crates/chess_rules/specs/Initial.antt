-- The initial position (Article 2.3).
use Rattle.std.specs.Prelude.{[], ◌∷◌, ◌++◌, None, true, replicate}
use Rattle.chess_rules.specs.declared.pieces.Side.{Side}
use Rattle.chess_rules.specs.declared.pieces.Side.TheVariants.{White, Black}
use Rattle.chess_rules.specs.declared.pieces.Kind.TheVariants.{Pawn, Rook, Knight, Bishop, King, Queen}
use Rattle.chess_rules.specs.declared.parts.Parts.{Parts}
use Rattle.chess_rules.specs.Board.{Board, piece_of}

-- a side's pieces behind its pawns, from the a-file to the h-file
abbrev pub back_rank : Side → Board
back_rank side =
    piece_of side Rook ∷ piece_of side Knight ∷ piece_of side Bishop ∷ piece_of side Queen ∷ piece_of side King
    ∷ piece_of side Bishop ∷ piece_of side Knight ∷ piece_of side Rook ∷ []

abbrev pub initial_board : Board
initial_board =
    back_rank Black ++ (replicate 8 (piece_of Black Pawn) ++ (replicate 32 None ++ (replicate 8 (piece_of White Pawn) ++ back_rank White)))

abbrev pub initial : Parts
initial = record {
  board = initial_board;
  side = White;
  rights = record { white_king = true; white_queen = true; black_king = true; black_queen = true };
  target = None;
  halfmove = 0;
  fullmove = 1;
}
