-- How a move may be typed: as PGN writes it or by its two squares, or otherwise so that it can be told which move is meant.
use Rattle.std.specs.Prelude.{◌≡◌, ◌⊎◌, ℕ, Bool, true, false, List, [], ◌∷◌, ◌++◌, Some, IsTrue, if◌then◌else◌, ⊤}
use Rattle.chess_rules.specs.declared.pieces.Kind.{Kind}
use Rattle.chess_rules.specs.declared.pieces.Kind.TheVariants.{Pawn, Rook, Knight, Bishop, King, Queen}
use Rattle.chess_rules.specs.declared.chess_move.Move.{Move}
use Rattle.chess_rules.specs.declared.parts.Parts.{Parts}
use Rattle.chess_rules.specs.Board.{on, piece_of}
use Rattle.chess_rules.specs.After.{is_castling, wing_of}
use Rattle.chess_rules.specs.Legal.{Legal}
use Rattle.chess_text.specs.Squares.{file_byte, rank_byte, square_text}
use Rattle.chess_text.specs.San.{San, castling_text, letter, promotion_text}
use Rattle.typed_lines.specs.Letters.{bare, in_english, letters}
use Rattle.typed_lines.specs.declared.spelling.Way.{Way}
use Rattle.typed_lines.specs.declared.spelling.Way.TheVariants.{Piece, WithFile, WithRank, WithSquare, Squares}
use Rattle.typed_lines.specs.declared.spelling.Manner.{Manner}
use Rattle.typed_lines.specs.declared.spelling.Manner.TheVariants.{Written, Meant}

-- The word is the move's SAN, but for marks at its end, the `=` before a promotion, and noughts for the letter O.
abbrev pub IsItsSan : Parts → Move → List ℕ → Type 0
IsItsSan p m word = (san : List ℕ) × San p m san × (bare word ≡ bare san)

-- The word is the two squares of the move, with the letter of what a pawn becomes.
abbrev pub IsOfSquares : Move → List ℕ → Type 0
IsOfSquares m word = letters word ≡ letters (square_text m.from ++ (square_text m.to ++ promotion_text m.promotion))

-- a piece's letter; a pawn has none
abbrev pub piece_letter : Kind → List ℕ
piece_letter Pawn = []
piece_letter King = letter King ∷ []
piece_letter Queen = letter Queen ∷ []
piece_letter Rook = letter Rook ∷ []
piece_letter Bishop = letter Bishop ∷ []
piece_letter Knight = letter Knight ∷ []

-- how it is said which piece moves: by its letter, with its file, its rank or its square, or by its square alone
abbrev pub mover_text : Way → Kind → ℕ → List ℕ
mover_text Piece kind s = piece_letter kind
mover_text WithFile kind s = piece_letter kind ++ file_byte s ∷ []
mover_text WithRank kind s = piece_letter kind ++ rank_byte s ∷ []
mover_text WithSquare kind s = piece_letter kind ++ square_text s
mover_text Squares _ s = square_text s

-- where it goes, and what a pawn becomes if that is said
abbrev pub destination_text : Bool → Move → List ℕ
destination_text said m = square_text m.to ++ (if said then promotion_text m.promotion else [])

-- A pawn that becomes a queen may be typed without saying so.
abbrev pub MayBe : Bool → Move → Type 0
MayBe true m = ⊤
MayBe false m = m.promotion ≡ Some Queen

-- These letters are those of the move of a piece of this kind, said in this way.
abbrev pub SpellsBy : Way → Kind → Move → List ℕ → Type 0
SpellsBy way kind m heard = (said : Bool) × MayBe said m × (heard ≡ letters (mover_text way kind m.from ++ destination_text said m))

-- They are, said in any way.
abbrev pub Spells : Kind → Move → List ℕ → Type 0
Spells kind m heard = (way : Way) × SpellsBy way kind m heard

-- They are those of castling, and the move is that.
abbrev pub SpellsCastling : Parts → Move → List ℕ → Type 0
SpellsCastling p m heard = IsTrue (is_castling p m) × (heard ≡ letters (castling_text (wing_of m)))

-- They are those of the move, in any of these ways.
abbrev pub SpellsMove : Parts → Move → List ℕ → Type 0
SpellsMove p m heard = SpellsCastling p m heard ⊎ ((kind : Kind) × (on p.board m.from ≡ piece_of p.side kind) × Spells kind m heard)

-- The word may be meant as the move, its letters read as those of PGN or of another language.
abbrev pub IsMeant : Parts → Move → List ℕ → Type 0
IsMeant p m word = SpellsMove p m (letters word) ⊎ SpellsMove p m (letters (in_english word))

-- The word is read in this manner as the move.
abbrev pub IsReadAs : Manner → Parts → Move → List ℕ → Type 0
IsReadAs Written p m word = IsItsSan p m word ⊎ IsOfSquares m word
IsReadAs Meant p m word = IsMeant p m word

-- Among the legal moves, the word is read as this one alone.
pub record IsOnly (manner : Manner) (p : Parts) (word : List ℕ) (m : Move) : Type 0 where
  pub legal : Legal p m
  pub reads : IsReadAs manner p m word
  pub alone : (n : Move) → Legal p n → IsReadAs manner p n word → n ≡ m
