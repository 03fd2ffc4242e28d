-- How a move is read off two pictures.
use Rattle.std.specs.Prelude.{ℕ, ◌==◌, ◌||◌, ◌&&◌, Bool, Option, Some, None, if◌then◌else◌}
use Rattle.chess_rules.specs.declared.pieces.Kind.{Kind}
use Rattle.chess_rules.specs.declared.pieces.Kind.TheVariants.{Rook, Knight, Bishop, Queen}
use Rattle.settle_core.specs.Candidate.{is_king_code, side_number}

abbrev pub is_pawn_code : ℕ → Bool
is_pawn_code c = (c == 1) || (c == 7)

-- The square is bare now. It had the king of this code; or, where the code is no king's, any piece of the code's side,
-- since a pawn that promotes gets another code.
abbrev pub leaves : ℕ → ℕ → ℕ → Bool
leaves code before after = (after == 0) && (if is_king_code code then before == code else side_number before == side_number code)

-- the kind that an officer's code names
abbrev pub officer_of : ℕ → Option Kind
officer_of c =
    if (c == 2) || (c == 8) then Some Rook
    else if (c == 3) || (c == 9) then Some Knight
    else if (c == 4) || (c == 10) then Some Bishop
    else if (c == 6) || (c == 12) then Some Queen
    else None

abbrev pub promotion_between : ℕ → ℕ → Option Kind
promotion_between before after = if is_pawn_code before then officer_of after else None
