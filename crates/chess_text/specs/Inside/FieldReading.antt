-- How the fields of a FEN are read.
use Rattle.std.specs.Prelude.{◌≡◌, ℕ, List, [], ◌∷◌, Bool, false, true, Option, None, Some, ◌==◌, if◌then◌else◌, codes}
use Rattle.std.specs.List.{slice_split}
use denote.Ref.{Bor}
use Rattle.chess_rules.specs.declared.parts.Rights.{Rights}
use Rattle.chess_text.specs.declared.fields.RawFields.{RawFields}
use Rattle.chess_text.specs.declared.fields.Fields.{Fields as FoundFields}
use Rattle.chess_rules.specs.declared.parts.Invalid.{Invalid}
use Rattle.chess_rules.specs.declared.parts.Invalid.TheVariants as invalid
use Rattle.chess_text.specs.declared.fen.FenError.{FenError}
use Rattle.chess_text.specs.declared.fen.FenError.TheVariants as refusal
use Rattle.chess_text.specs.Fen.{Fields}

-- ---- between spaces

abbrev pub is_space : ℕ → Bool
is_space b = b == 32

abbrev pub split : List ℕ → List (List ℕ)
split bytes = slice_split is_space bytes

abbrev pub split_behind : Option (Bor (List ℕ)) → List (List ℕ)
split_behind None = []
split_behind (Some rest) = split rest.now

-- six, or four with the counters 0 and 1
pub data AreRaw (text : List ℕ) (c : RawFields) : Type 0 where
  six :
      split text ≡ c.placement.now ∷ c.side.now ∷ c.castling.now ∷ c.target.now ∷ c.halfmove.now ∷ c.fullmove.now ∷ []
      → AreRaw text c
  four :
      split text ≡ c.placement.now ∷ c.side.now ∷ c.castling.now ∷ c.target.now ∷ []
      → c.halfmove.now ≡ codes "0"
      → c.fullmove.now ≡ codes "1"
      → AreRaw text c

-- the fields that were found, without where they lie in memory
abbrev pub fields_in : FoundFields → Fields
fields_in f = record {
  placement = f.placement.now;
  side = f.side;
  rights = f.rights;
  target = f.target;
  halfmove = f.halfmove.now;
  fullmove = f.fullmove.now;
}

-- ---- the rights whose letters stand in a text

abbrev pub has : ℕ → List ℕ → Bool
has b [] = false
has b (c ∷ cs) = if c == b then true else has b cs

abbrev pub rights_at : List ℕ → Rights
rights_at bs = record { white_king = has 75 bs; white_queen = has 81 bs; black_king = has 107 bs; black_queen = has 113 bs }

-- ---- the refusal of a text whose parts fail this condition first

abbrev pub refusal_of : Invalid → FenError
refusal_of invalid.Counters = refusal.Counters
refusal_of invalid.Kings = refusal.Kings
refusal_of invalid.Pawns = refusal.Pawns
refusal_of invalid.Rights = refusal.Rights
refusal_of invalid.EnPassant = refusal.EnPassant
refusal_of invalid.Check = refusal.Check
