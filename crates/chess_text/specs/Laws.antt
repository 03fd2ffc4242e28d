-- What holds of all texts of positions and moves.
use Rattle.std.specs.Prelude.{◌≡◌, ◌≢◌, ℕ, ◌<◌, ◌≤◌, ◌↔◌, List, length, All}
use Rattle.chess_rules.specs.declared.chess_move.Move.{Move}
use Rattle.chess_rules.specs.declared.parts.Parts.{Parts}
use Rattle.chess_rules.specs.Legal.{Legal}
use Rattle.chess_rules.specs.Valid.{Valid}
use Rattle.chess_text.specs.declared.fen.FenError.{FenError}
use Rattle.chess_text.specs.Placement.{placement, IsBoardPicture, squares, HasDigitsApart, IsPlacement}
use Rattle.chess_text.specs.Fen.{fen, TellsPosition, RefusedFirst}
use Rattle.chess_text.specs.San.{San}

-- A text tells one position at most; so two positions never share a FEN.
abbrev pub TextsTellPositions : Type 0
TextsTellPositions =
    (p q : Parts) (text : List ℕ)
    → Valid p
    → Valid q
    → TellsPosition text p
    → TellsPosition text q
    → p ≡ q

-- A text meets one refusal at most.
abbrev pub OneRefusal : Type 0
OneRefusal = (text : List ℕ) (a b : FenError) → RefusedFirst text a → RefusedFirst text b → a ≡ b

-- A picture has one text by the rule of placements, and `placement` is that text.
abbrev pub PlacementsAreThese : Type 0
PlacementsAreThese = (picture text : List ℕ) → IsPlacement picture text ↔ (text ≡ placement picture)

-- The squares of a board's placement are those of the board, and no two digits of a placement stand side by side.
pub record PlacementsReadBack : Type 0 where
  pub squares : (picture : List ℕ) → IsBoardPicture picture → squares (placement picture) ≡ picture
  pub apart : (picture : List ℕ) → HasDigitsApart (placement picture)

-- a printable byte other than the quotation mark and the backslash
abbrev pub IsFenByte : ℕ → Type 0
IsFenByte b = (31 < b) × (b < 127) × (b ≢ 34) × (b ≢ 92)

-- at most 91 bytes, none of which a tag would escape
pub record IsFenText (text : List ℕ) : Type 0 where
  pub short : length text ≤ 91
  pub bytes : All IsFenByte text

-- The FEN of a valid position is such a text.
abbrev pub FensArePlain : Type 0
FensArePlain = (p : Parts) → Valid p → IsFenText (fen p)

-- Two legal moves of a valid position never share a text.
abbrev pub TextsTellMoves : Type 0
TextsTellMoves =
    (p : Parts) (m n : Move) (text : List ℕ)
    → Valid p
    → Legal p m
    → Legal p n
    → San p m text
    → San p n text
    → m ≡ n

-- A legal move has at most one text.
abbrev pub MovesTellTexts : Type 0
MovesTellTexts =
    (p : Parts) (m : Move) (a b : List ℕ)
    → Valid p
    → Legal p m
    → San p m a
    → San p m b
    → a ≡ b

-- a printable byte other than the space
abbrev pub IsSanByte : ℕ → Type 0
IsSanByte b = (32 < b) × (b < 127)

-- 2 to 7 bytes, each printable and no space
pub record IsSanText (text : List ℕ) : Type 0 where
  pub low : 2 ≤ length text
  pub high : length text ≤ 7
  pub bytes : All IsSanByte text

-- The text of a legal move is such a text.
abbrev pub TextsArePlain : Type 0
TextsArePlain =
    (p : Parts) (m : Move) (text : List ℕ)
    → Valid p
    → Legal p m
    → San p m text
    → IsSanText text
