-- The codes of pieces.
use Rattle.std.proofs.Common.{◌≡◌, ℕ, zero, suc, ◌<◌, List, [], ◌∷◌, length, map, Option, None, Some, refl, ◌∙◌, arith}
use Rattle.std.specs.Prelude.{All}
use Rattle.std.specs.List.{AllByRecursion}
use Rattle.std.proofs.lemmas.List.Elements.{All-map, recursion_from_All}
use Rattle.std.proofs.lemmas.List.{length-map}
use Rattle.chess_rules.specs.declared.pieces.Side.{Side}
use Rattle.chess_rules.specs.declared.pieces.Side.TheVariants.{White, Black}
use Rattle.chess_rules.specs.declared.pieces.Kind.{Kind}
use Rattle.chess_rules.specs.declared.pieces.Kind.TheVariants.{Pawn, Rook, Knight, Bishop, King, Queen}
use Rattle.chess_rules.specs.declared.pieces.Piece.{Piece}
use Rattle.chess_rules.specs.Picture.{code, code_of_piece}
use Rattle.chess_rules.specs.Board.{Board}
use Rattle.chess_text.specs.Placement.{IsBoardPicture}
use Rattle.chess_text.specs.Inside.PlacementReading.{decode}

piece_low : (side : Side) (k : Kind) → code_of_piece side k < 13
piece_low White Pawn = omega arith
piece_low White Rook = omega arith
piece_low White Knight = omega arith
piece_low White Bishop = omega arith
piece_low White King = omega arith
piece_low White Queen = omega arith
piece_low Black Pawn = omega arith
piece_low Black Rook = omega arith
piece_low Black Knight = omega arith
piece_low Black Bishop = omega arith
piece_low Black King = omega arith
piece_low Black Queen = omega arith

code_low : (piece : Option Piece) → code piece < 13
code_low None = omega arith
code_low (Some piece) = piece_low piece.side piece.kind

pub codes_low : (board : Board) → All (λ c. c < 13) (map code board)
codes_low board = All-map (λ (c : ℕ). c < 13) code board (λ k d lt. code_low _)

-- ---- and back

code-decode : (c : ℕ) → c < 13 → code (decode c) ≡ c
code-decode zero lt = refl
code-decode (suc zero) lt = refl
code-decode (suc (suc zero)) lt = refl
code-decode (suc (suc (suc zero))) lt = refl
code-decode (suc (suc (suc (suc zero)))) lt = refl
code-decode (suc (suc (suc (suc (suc zero))))) lt = refl
code-decode (suc (suc (suc (suc (suc (suc zero)))))) lt = refl
code-decode (suc (suc (suc (suc (suc (suc (suc zero))))))) lt = refl
code-decode (suc (suc (suc (suc (suc (suc (suc (suc zero)))))))) lt = refl
code-decode (suc (suc (suc (suc (suc (suc (suc (suc (suc zero))))))))) lt = refl
code-decode (suc (suc (suc (suc (suc (suc (suc (suc (suc (suc zero)))))))))) lt = refl
code-decode (suc (suc (suc (suc (suc (suc (suc (suc (suc (suc (suc zero))))))))))) lt = refl
code-decode (suc (suc (suc (suc (suc (suc (suc (suc (suc (suc (suc (suc zero)))))))))))) lt = refl
code-decode (suc (suc (suc (suc (suc (suc (suc (suc (suc (suc (suc (suc (suc c))))))))))))) lt = absurd (omega arith)

map_code-decode : (picture : List ℕ) → AllByRecursion (λ c. c < 13) picture → map code (map decode picture) ≡ picture
map_code-decode [] low = refl
map_code-decode (c ∷ cs) low = cc (code-decode c low.0, map_code-decode cs low.1)

-- a board's picture is that of the board that is read off it
pub picture_back : (picture : List ℕ) → IsBoardPicture picture → map code (map decode picture) ≡ picture
picture_back picture is = map_code-decode picture (recursion_from_All (λ (c : ℕ). c < 13) picture is.codes)

pub board_picture : (board : Board) → length board ≡ 64 → IsBoardPicture (map code board)
board_picture board e = record { squares = length-map board code ∙ e; codes = codes_low board }
