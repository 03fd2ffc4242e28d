-- The position after a move.
use Rattle.std.specs.Prelude.{ℕ, ◌+◌, ◌*◌, ◌/◌, min, Bool, true, false, not, ◌&&◌, ◌||◌, ◌==◌, nat_le, Option, Some, None, is_some, unwrap_or, slice_set, if◌then◌else◌}
use Rattle.chess_rules.specs.declared.pieces.Side.{Side}
use Rattle.chess_rules.specs.declared.pieces.Side.TheVariants.{White, Black}
use Rattle.chess_rules.specs.declared.pieces.Kind.{Kind}
use Rattle.chess_rules.specs.declared.pieces.Kind.TheVariants.{Pawn, Rook, King}
use Rattle.chess_rules.specs.declared.pieces.Piece.{Piece}
use Rattle.chess_rules.specs.declared.chess_move.Move.{Move}
use Rattle.chess_rules.specs.declared.parts.Rights.{Rights}
use Rattle.chess_rules.specs.declared.parts.Parts.{Parts}
use Rattle.chess_rules.specs.declared.lines.Wing.{Wing}
use Rattle.chess_rules.specs.declared.lines.Wing.TheVariants.{KingSide, QueenSide}
use Rattle.chess_rules.specs.Board.{Board, on, piece_of, other, file, row}
use Rattle.chess_rules.specs.Attack.{gap}

-- The squares of castling (Article 3.8.2): the king's home (e1, e8), each rook's home (h1, a1, h8, a8), the king's
-- target (g1, c1, g8, c8) and the square that it crosses (f1, d1, f8, d8).
abbrev pub king_home : Side → ℕ
king_home White = 60
king_home Black = 4

abbrev pub rook_home : Side → Wing → ℕ
rook_home White KingSide = 63
rook_home White QueenSide = 56
rook_home Black KingSide = 7
rook_home Black QueenSide = 0

abbrev pub castling_target : Side → Wing → ℕ
castling_target White KingSide = 62
castling_target White QueenSide = 58
castling_target Black KingSide = 6
castling_target Black QueenSide = 2

abbrev pub crossed : Side → Wing → ℕ
crossed White KingSide = 61
crossed White QueenSide = 59
crossed Black KingSide = 5
crossed Black QueenSide = 3

-- whether the side still has the right to castle to this wing (Article 3.8.2.1)
abbrev pub has_right : Rights → Side → Wing → Bool
has_right r White KingSide = r.white_king
has_right r White QueenSide = r.white_queen
has_right r Black KingSide = r.black_king
has_right r Black QueenSide = r.black_queen

-- whether the side is White
abbrev pub is_white : Side → Bool
is_white White = true
is_white Black = false

-- whether both are one side
abbrev pub is_side : Side → Side → Bool
is_side White side = is_white side
is_side Black side = not (is_white side)

-- whether pieces of this kind are pawns
abbrev pub is_pawn_kind : Kind → Bool
is_pawn_kind Pawn = true
is_pawn_kind _ = false

-- whether pieces of this kind are kings
abbrev pub is_king_kind : Kind → Bool
is_king_kind King = true
is_king_kind _ = false

-- whether a pawn stands there
abbrev pub is_pawn : Option Piece → Bool
is_pawn (Some piece) = is_pawn_kind piece.kind
is_pawn None = false

-- whether a king stands there
abbrev pub is_king : Option Piece → Bool
is_king (Some piece) = is_king_kind piece.kind
is_king None = false

-- whether a pawn goes two squares (Article 3.7.2)
abbrev pub is_double_step : Parts → Move → Bool
is_double_step p m = is_pawn (on p.board m.from) && (gap (row m.from) (row m.to) == 2)

-- whether a pawn goes to another file where nothing stands: it takes en passant (Article 3.7)
abbrev pub is_en_passant : Parts → Move → Bool
is_en_passant p m = is_pawn (on p.board m.from) && (not (file m.from == file m.to) && not (is_some (on p.board m.to)))

-- whether a king goes two files: it castles (Article 3.8.2)
abbrev pub is_castling : Parts → Move → Bool
is_castling p m = is_king (on p.board m.from) && (gap (file m.from) (file m.to) == 2)

-- towards which rook the king goes
abbrev pub wing_of : Move → Wing
wing_of m = if nat_le (file m.from) (file m.to) then KingSide else QueenSide

-- what stands on the square of arrival: the piece, or what it is promoted to
abbrev pub arrival : Option Kind → Option Piece → Option Piece
arrival promotion (Some piece) = piece_of piece.side (unwrap_or promotion piece.kind)
arrival promotion None = None

-- the square of the pawn that is taken en passant: on the rank that the move leaves and the file that it goes to
abbrev pub taken_pawn : Move → ℕ
taken_pawn m = 8 * row m.from + file m.to

-- The piece is moved; what stood on the square of arrival is gone (Article 3.1.1).
abbrev pub moved : Board → Move → Board
moved board m = slice_set (slice_set board m.from None) m.to (arrival m.promotion (on board m.from))

-- the rook is put on the square that the king crossed (Article 3.8.2)
abbrev pub with_rook : Board → Side → Wing → Board
with_rook board side wing = slice_set (slice_set board (rook_home side wing) None) (crossed side wing) (piece_of side Rook)

-- the board after the move
abbrev pub board_after : Parts → Move → Board
board_after p m =
    if is_castling p m then with_rook (moved p.board m) p.side (wing_of m)
    else if is_en_passant p m then slice_set (moved p.board m) (taken_pawn m) None
    else moved p.board m

-- A right is kept unless its side's king moves, or a move goes from or to its rook's home (Article 3.8.2.1).
abbrev pub right_after : Parts → Move → Side → Wing → Bool
right_after p m side wing =
    has_right p.rights side wing
    && (not (is_king (on p.board m.from) && is_side side p.side)
    && (not (m.from == rook_home side wing) && not (m.to == rook_home side wing)))

abbrev pub rights_after : Parts → Move → Rights
rights_after p m = record {
  white_king = right_after p m White KingSide;
  white_queen = right_after p m White QueenSide;
  black_king = right_after p m Black KingSide;
  black_queen = right_after p m Black QueenSide;
}

-- a counter one further; at 9999 it stands still (this project's rule)
abbrev pub counted : ℕ → ℕ
counted n = min 9999 (n + 1)

-- The position after the move: the other side is to move; the target is the square that a double step passed over; the
-- halfmove clock is 0 after a pawn's move or a capture; the fullmove number counts after Black's move.
abbrev pub after : Parts → Move → Parts
after p m = record {
  board = board_after p m;
  side = other p.side;
  rights = rights_after p m;
  target = if is_double_step p m then Some ((m.from + m.to) / 2) else None;
  halfmove = if is_pawn (on p.board m.from) || is_some (on p.board m.to) then 0 else counted p.halfmove;
  fullmove = if is_white p.side then p.fullmove else counted p.fullmove;
}
