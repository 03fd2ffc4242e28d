-- FEN: the text of a position, and for what a text is refused.
use Rattle.std.specs.Prelude.{◌≡◌, ◌≢◌, ℕ, ◌<◌, List, [], ◌∷◌, ◌++◌, length, map, decimal, codes, Bool, true, false, Option, None, Some, ◌⊎◌, All}
use Rattle.std.specs.List.{join_with_byte}
use Rattle.chess_rules.specs.declared.pieces.Side.{Side}
use Rattle.chess_rules.specs.declared.pieces.Side.TheVariants.{White, Black}
use Rattle.chess_rules.specs.declared.parts.Rights.{Rights}
use Rattle.chess_rules.specs.declared.parts.Parts.{Parts}
use Rattle.chess_rules.specs.declared.parts.Invalid.TheVariants as invalid
use Rattle.chess_rules.specs.Board.{Board, row}
use Rattle.chess_rules.specs.Picture.{code, picture}
use Rattle.chess_rules.specs.Valid.{HasCounters, FailsFirst}
use Rattle.chess_text.specs.Squares.{square_text}
use Rattle.chess_text.specs.Placement.{placement, IsDigit}
use Rattle.chess_text.specs.declared.fen.FenError.{FenError}
use Rattle.chess_text.specs.declared.fen.FenError.TheVariants as refusal

-- The side to move.
abbrev pub side_text : Side → List ℕ
side_text White = codes "w"
side_text Black = codes "b"

-- a right's letter where it is held
abbrev pub held : Bool → ℕ → List ℕ
held true letter = letter ∷ []
held false letter = []

-- the letters of the held rights in the order KQkq
abbrev pub rights_letters : Rights → List ℕ
rights_letters r = held r.white_king 75 ++ (held r.white_queen 81 ++ (held r.black_king 107 ++ held r.black_queen 113))

-- `-` in place of nothing
abbrev pub or_dash : List ℕ → List ℕ
or_dash [] = codes "-"
or_dash (b ∷ bs) = b ∷ bs

-- The castling rights.
abbrev pub rights_text : Rights → List ℕ
rights_text r = or_dash (rights_letters r)

-- The en passant target.
abbrev pub target_text : Option ℕ → List ℕ
target_text None = codes "-"
target_text (Some s) = square_text s

-- What the fields of a text say, before its board and its counters are read.
pub record Fields : Type 0 where
  pub placement : List ℕ
  pub side : Side
  pub rights : Rights
  pub target : Option ℕ
  pub halfmove : List ℕ
  pub fullmove : List ℕ

-- Six fields with one space between.
abbrev pub six_fields : Fields → List ℕ
six_fields f = join_with_byte 32
    (f.placement ∷ side_text f.side ∷ rights_text f.rights ∷ target_text f.target ∷ f.halfmove ∷ f.fullmove ∷ [])

-- The first four of them.
abbrev pub four_fields : Fields → List ℕ
four_fields f = join_with_byte 32 (f.placement ∷ side_text f.side ∷ rights_text f.rights ∷ target_text f.target ∷ [])

-- The fields of a position: placement, side to move, castling rights, target, halfmove clock, fullmove number.
abbrev pub fields_of : Parts → Fields
fields_of p = record {
  placement = placement (picture p);
  side = p.side;
  rights = p.rights;
  target = p.target;
  halfmove = decimal p.halfmove;
  fullmove = decimal p.fullmove;
}

-- The FEN of a position.
unfoldable pub fen : Parts → List ℕ
fen p = six_fields (fields_of p)

-- The first four fields of its FEN.
unfoldable pub short_fen : Parts → List ℕ
short_fen p = four_fields (fields_of p)

-- A text tells a position: it is its FEN, or the first four fields of its FEN where the counters are 0 and 1.
pub data TellsPosition (text : List ℕ) (p : Parts) : Type 0 where
  whole : text ≡ fen p → TellsPosition text p
  short : p.halfmove ≡ 0 → p.fullmove ≡ 1 → text ≡ short_fen p → TellsPosition text p

-- ---- refusals

-- a square of rank 6 or 3
abbrev pub IsTargetField : Option ℕ → Type 0
IsTargetField None = Unit {0}
IsTargetField (Some s) = (row s ≡ 2) ⊎ (row s ≡ 5)

-- one digit or more, and nothing else
abbrev pub IsDigits : List ℕ → Type 0
IsDigits ds = (0 < length ds) × All IsDigit ds

-- Fields of the form: a placement without a space, a target on rank 6 or 3, counters of digits.
pub record AreFields (f : Fields) : Type 0 where
  pub some : 0 < length f.placement
  pub no_space : All (λ b. b ≢ 32) f.placement
  pub target : IsTargetField f.target
  pub halfmove : IsDigits f.halfmove
  pub fullmove : IsDigits f.fullmove

-- A text has these fields: all six, or the first four, which leave the counters 0 and 1.
pub data IsSplit (text : List ℕ) (f : Fields) : Type 0 where
  six : text ≡ six_fields f → IsSplit text f
  four : f.halfmove ≡ codes "0" → f.fullmove ≡ codes "1" → text ≡ four_fields f → IsSplit text f

-- 1: the form
pub record HasForm (text : List ℕ) (f : Fields) : Type 0 where
  pub are_fields : AreFields f
  pub split : IsSplit text f

-- 2: the counters are numbers in their ranges, without leading zeros
pub record ReadsCounters (f : Fields) : Type 0 where
  pub halfmove : ℕ
  pub halfmove_text : f.halfmove ≡ decimal halfmove
  pub halfmove_fits : halfmove < 10000
  pub fullmove : ℕ
  pub fullmove_text : f.fullmove ≡ decimal fullmove
  pub fullmove_fits : fullmove < 10000
  pub started : 0 < fullmove

-- 3: the first field is the placement of a board
pub record ReadsBoard (f : Fields) : Type 0 where
  pub board : Board
  pub squares : length board ≡ 64
  pub text : f.placement ≡ placement (map code board)

-- The text reads as these parts, whether or not they are a position.
pub record ReadsAs (text : List ℕ) (p : Parts) : Type 0 where
  pub squares : length p.board ≡ 64
  pub target : IsTargetField p.target
  pub counters : HasCounters p
  pub tells : TellsPosition text p

-- A text's first refusal: its form, its counters, its placement, or the first condition that its parts fail.
abbrev pub RefusedFirst : List ℕ → FenError → Type 0
RefusedFirst text refusal.Form = (f : Fields) → ¬ HasForm text f
RefusedFirst text refusal.Counters = (f : Fields) × HasForm text f × ¬ ReadsCounters f
RefusedFirst text refusal.Placement = (f : Fields) × HasForm text f × ReadsCounters f × ¬ ReadsBoard f
RefusedFirst text refusal.Kings = (p : Parts) × ReadsAs text p × FailsFirst p invalid.Kings
RefusedFirst text refusal.Pawns = (p : Parts) × ReadsAs text p × FailsFirst p invalid.Pawns
RefusedFirst text refusal.Rights = (p : Parts) × ReadsAs text p × FailsFirst p invalid.Rights
RefusedFirst text refusal.EnPassant = (p : Parts) × ReadsAs text p × FailsFirst p invalid.EnPassant
RefusedFirst text refusal.Check = (p : Parts) × ReadsAs text p × FailsFirst p invalid.Check
