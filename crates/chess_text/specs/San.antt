-- SAN: the text of a legal move. A text is its list of bytes; what each number means stands beside it.
use Rattle.std.specs.Prelude.{◌≡◌, ◌≢◌, ℕ, List, [], ◌∷◌, ◌++◌, Bool, true, false, ◌||◌, Option, None, Some, is_some, IsTrue, codes}
use Rattle.chess_rules.specs.declared.pieces.Kind.{Kind}
use Rattle.chess_rules.specs.declared.pieces.Kind.TheVariants.{Pawn, Rook, Knight, Bishop, King, Queen}
use Rattle.chess_rules.specs.declared.chess_move.Move.{Move}
use Rattle.chess_rules.specs.declared.parts.Parts.{Parts}
use Rattle.chess_rules.specs.declared.lines.Wing.{Wing}
use Rattle.chess_rules.specs.declared.lines.Wing.TheVariants.{KingSide, QueenSide}
use Rattle.chess_rules.specs.Board.{on, piece_of, other, file, row}
use Rattle.chess_rules.specs.Attack.{InCheck}
use Rattle.chess_rules.specs.After.{after, is_castling, is_en_passant, wing_of}
use Rattle.chess_rules.specs.Legal.{Legal, Mated}
use Rattle.chess_text.specs.Squares.{file_byte, rank_byte, square_text}
use Rattle.chess_text.specs.declared.san.Origin.{Origin}
use Rattle.chess_text.specs.declared.san.Origin.TheVariants.{Nothing, ByFile, ByRank, ByBoth}
use Rattle.chess_text.specs.declared.san.Mark.{Mark}
use Rattle.chess_text.specs.declared.san.Mark.TheVariants.{Quiet, Check, Mate}

-- K, Q, R, B and N (and P, which no text of a move has)
abbrev pub letter : Kind → ℕ
letter King = 75
letter Queen = 81
letter Rook = 82
letter Bishop = 66
letter Knight = 78
letter Pawn = 80

-- `O-O` and `O-O-O`
abbrev pub castling_text : Wing → List ℕ
castling_text KingSide = codes "O-O"
castling_text QueenSide = codes "O-O-O"

-- the move takes a piece: one stands on its target square, or it takes en passant
abbrev pub is_capture : Parts → Move → Bool
is_capture p m = is_some (on p.board m.to) || is_en_passant p m

-- `x` for a capture
abbrev pub cross : Bool → List ℕ
cross true = codes "x"
cross false = []

-- the pawn's file and `x` before a capture
abbrev pub pawn_cross : Bool → ℕ → List ℕ
pawn_cross true from = file_byte from ∷ codes "x"
pawn_cross false from = []

-- `=` and Q, R, B or N for a promotion
abbrev pub promotion_text : Option Kind → List ℕ
promotion_text None = []
promotion_text (Some kind) = 61 ∷ letter kind ∷ []

-- a pawn's move
abbrev pub pawn_text : Bool → Move → List ℕ
pawn_text capture m = pawn_cross capture m.from ++ (square_text m.to ++ promotion_text m.promotion)

-- another legal move by a piece of the same kind to the same square
pub record IsRival (p : Parts) (m n : Move) : Type 0 where
  pub other : n ≢ m
  pub legal : Legal p n
  pub kind : on p.board n.from ≡ on p.board m.from
  pub to : n.to ≡ m.to

-- a rival that starts on the file, or on the rank, of m
pub record IsRivalOnFile (p : Parts) (m n : Move) : Type 0 where
  pub rival : IsRival p m n
  pub file : file n.from ≡ file m.from

pub record IsRivalOnRank (p : Parts) (m n : Move) : Type 0 where
  pub rival : IsRival p m n
  pub rank : row n.from ≡ row m.from

-- The needed part of the origin: with no rival nothing, else the file if none of them starts on that file, else the
-- rank if none starts on that rank, else both.
abbrev pub IsNeeded : Parts → Move → Origin → Type 0
IsNeeded p m Nothing = (n : Move) → ¬ IsRival p m n
IsNeeded p m ByFile = ((n : Move) × IsRival p m n) × ((n : Move) → ¬ IsRivalOnFile p m n)
IsNeeded p m ByRank = ((n : Move) × IsRivalOnFile p m n) × ((n : Move) → ¬ IsRivalOnRank p m n)
IsNeeded p m ByBoth = ((n : Move) × IsRivalOnFile p m n) × ((n : Move) × IsRivalOnRank p m n)

abbrev pub origin_text : Origin → ℕ → List ℕ
origin_text Nothing s = []
origin_text ByFile s = file_byte s ∷ []
origin_text ByRank s = rank_byte s ∷ []
origin_text ByBoth s = square_text s

-- the move of another piece
abbrev pub piece_text : Kind → Origin → Bool → Move → List ℕ
piece_text kind origin capture m = letter kind ∷ origin_text origin m.from ++ (cross capture ++ square_text m.to)

-- the text of a move before its mark
pub data IsBody (p : Parts) (m : Move) (body : List ℕ) : Type 0 where
  castling : IsTrue (is_castling p m) → body ≡ castling_text (wing_of m) → IsBody p m body
  pawn : on p.board m.from ≡ piece_of p.side Pawn → body ≡ pawn_text (is_capture p m) m → IsBody p m body
  piece :
      (kind : Kind)
      → on p.board m.from ≡ piece_of p.side kind
      → kind ≢ Pawn
      → ¬ IsTrue (is_castling p m)
      → (origin : Origin)
      → IsNeeded p m origin
      → body ≡ piece_text kind origin (is_capture p m) m
      → IsBody p m body

-- `#` where the position after the move is checkmate, else `+` where it is check
abbrev pub mark_text : Mark → List ℕ
mark_text Quiet = []
mark_text Check = codes "+"
mark_text Mate = codes "#"

abbrev pub IsMark : Parts → Mark → Type 0
IsMark q Mate = Mated q
IsMark q Check = InCheck q.board q.side (other q.side) × ¬ Mated q
IsMark q Quiet = ¬ InCheck q.board q.side (other q.side)

-- the text of a legal move
pub record San (p : Parts) (m : Move) (text : List ℕ) : Type 0 where
  pub body : List ℕ
  pub is_body : IsBody p m body
  pub mark : Mark
  pub is_mark : IsMark (after p m) mark
  pub is_text : text ≡ body ++ mark_text mark
