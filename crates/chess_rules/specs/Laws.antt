-- What holds of all positions and moves.
use Rattle.std.specs.Prelude.{◌≡◌, ◌≢◌, ◌⊎◌, ℕ, Option, None, unwrap_or}
use Rattle.chess_rules.specs.declared.pieces.Side.{Side}
use Rattle.chess_rules.specs.declared.pieces.Kind.{Kind}
use Rattle.chess_rules.specs.declared.pieces.Kind.TheVariants.{Pawn, Rook, King}
use Rattle.chess_rules.specs.declared.pieces.Piece.{Piece}
use Rattle.chess_rules.specs.declared.chess_move.Move.{Move}
use Rattle.chess_rules.specs.declared.parts.Parts.{Parts}
use Rattle.chess_rules.specs.declared.lines.Wing.{Wing}
use Rattle.chess_rules.specs.Board.{Board, on, piece_of, other, Ahead, forward}
use Rattle.chess_rules.specs.After.{after, crossed, rook_home}
use Rattle.chess_rules.specs.Legal.{Legal, Captures, Castles, TakesEnPassant, NamesPromotion}
use Rattle.chess_rules.specs.Valid.{Valid}
use Rattle.chess_rules.specs.Picture.{code, picture}

-- each piece of this side stands on the same square of the second board
abbrev pub KeepsPieces : Side → Board → Board → Type 0
KeepsPieces side old new = (s : ℕ) (kind : Kind) → on old s ≡ piece_of side kind → on new s ≡ piece_of side kind

-- In a valid position, the pieces of the mover after a legal move stand on their squares after another one too only
-- where both are one move.
abbrev pub PiecesTellMoves : Type 0
PiecesTellMoves =
    (p : Parts) (m n : Move)
    → Valid p
    → Legal p m
    → Legal p n
    → KeepsPieces p.side (after p m).board (after p n).board
    → m ≡ n

-- So the picture after a legal move is that of no other.
abbrev pub PicturesTellMoves : Type 0
PicturesTellMoves =
    (p : Parts) (m n : Move)
    → Valid p
    → Legal p m
    → Legal p n
    → picture (after p m) ≡ picture (after p n)
    → m ≡ n

-- The position after a legal move of a valid position is valid.
abbrev pub MovesStayValid : Type 0
MovesStayValid = (p : Parts) (m : Move) → Valid p → Legal p m → Valid (after p m)

-- A code stands for one piece, or for none.
abbrev pub CodesTellPieces : Type 0
CodesTellPieces = (a b : Option Piece) → code a ≡ code b → a ≡ b

-- So two positions of one picture have one board.
abbrev pub PicturesTellBoards : Type 0
PicturesTellBoards = (p q : Parts) → picture p ≡ picture q → p.board ≡ q.board

-- One piece goes, and becomes what the move says. It lands on no piece of its side; on `taken`, if that is not the
-- square it leaves, a pawn is taken en passant. Nothing else changes.
pub record MovesOnePiece (p : Parts) (m : Move) : Type 0 where
  pub kind : Kind
  pub taken : ℕ
  pub stands : on p.board m.from ≡ piece_of p.side kind
  pub names : NamesPromotion p.side kind m
  pub no_new_king : unwrap_or m.promotion kind ≡ King → kind ≡ King
  pub free : (own : Kind) → on p.board m.to ≢ piece_of p.side own
  pub captures : (victim : Kind) → on p.board m.to ≡ piece_of (other p.side) victim → Captures p m
  pub passes : (taken ≡ m.from) ⊎ (TakesEnPassant p m × (on p.board taken ≡ piece_of (other p.side) Pawn)
      × Ahead (forward (other p.side)) 1 m.to taken)
  pub apart : m.from ≢ m.to
  pub left : on (after p m).board m.from ≡ None
  pub came : on (after p m).board m.to ≡ piece_of p.side (unwrap_or m.promotion kind)
  pub gone : on (after p m).board taken ≡ None
  pub others : (s : ℕ) → s ≢ m.from → s ≢ m.to → s ≢ taken → on (after p m).board s ≡ on p.board s

-- The king and a rook go, each to an empty square. Nothing else changes.
pub record MovesKingAndRook (p : Parts) (m : Move) : Type 0 where
  pub wing : Wing
  pub castles : Castles p m wing
  pub promotion : m.promotion ≡ None
  pub king : on p.board m.from ≡ piece_of p.side King
  pub rook : on p.board (rook_home p.side wing) ≡ piece_of p.side Rook
  pub target_empty : on p.board m.to ≡ None
  pub crossed_empty : on p.board (crossed p.side wing) ≡ None
  pub king_left : on (after p m).board m.from ≡ None
  pub rook_left : on (after p m).board (rook_home p.side wing) ≡ None
  pub king_came : on (after p m).board m.to ≡ piece_of p.side King
  pub rook_came : on (after p m).board (crossed p.side wing) ≡ piece_of p.side Rook
  pub others : (s : ℕ) → s ≢ m.from → s ≢ m.to → s ≢ rook_home p.side wing → s ≢ crossed p.side wing
      → on (after p m).board s ≡ on p.board s

-- A legal move of a valid position moves one piece, or a king and a rook.
abbrev pub MovesMovePieces : Type 0
MovesMovePieces = (p : Parts) (m : Move) → Valid p → Legal p m → MovesOnePiece p m ⊎ MovesKingAndRook p m
