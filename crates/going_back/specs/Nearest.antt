-- Which ply of a game is nearest to a text that names none: by the number at the front of the text, and whether it is
-- Black's. Plies stand in their order.
use Rattle.std.specs.Prelude.{◌≡◌, ◌+◌, ◌-◌, ◌*◌, ◌≤◌, ◌&&◌, nat_lt, min, ℕ, zero, suc, Bool, if◌then◌else◌, List, [], ◌∷◌, codes, length, take, ⊤}
use Rattle.std.specs.Str.{bytes_eq}
use Rattle.chess_rules.specs.declared.pieces.Side.{Side}
use Rattle.chess_rules.specs.declared.pieces.Side.TheVariants.{White, Black}
use Rattle.chess_rules.specs.declared.parts.Parts.{Parts}
use Rattle.chess_rules.specs.After.{after}
use Rattle.settle_core.specs.declared.plies.Ply.{Ply}

-- 0 to 9
abbrev pub is_digit : ℕ → Bool
is_digit c = nat_lt 47 c && nat_lt c 58

-- two full stops at the front
abbrev pub is_dotted : List ℕ → Bool
is_dotted text = bytes_eq (take (min (length text) 2) text) (codes "..")

-- The half-moves up to White's or Black's ply with this number.
abbrev pub half_of : Side → ℕ → ℕ
half_of White n = 2 * n
half_of Black n = 2 * n + 1

-- The half-moves up to the ply that a text asks for, behind digits that say n: Black's where two full stops follow. A
-- number above 10,000 counts as that.
abbrev pub half_asked : ℕ → List ℕ → ℕ
half_asked n [] = 2 * n
half_asked n (c ∷ rest) = if is_digit c then half_asked (min (10 * n + (c - 48)) 10000) rest
    else (if is_dotted (c ∷ rest) then 2 * n + 1 else 2 * n)

-- how many plies are between the ply in this position and the one that the text asks for
abbrev pub far_from : List ℕ → Parts → ℕ
far_from text p = (half_asked 0 text - half_of p.side p.fullmove) + (half_of p.side p.fullmove - half_asked 0 text)

-- No ply is nearer than this.
abbrev pub NoneNearer : List ℕ → Parts → List Ply → ℕ → Type 0
NoneNearer text p [] n = ⊤
NoneNearer text p (ply ∷ plies) n = (n ≤ far_from text p) × NoneNearer text (after p ply.mv) plies n

-- The ply with this number, which is 1 for the first, is so far.
abbrev pub IsSoFar : List ℕ → Parts → List Ply → ℕ → ℕ → Type 0
IsSoFar text p [] k n = ⊥
IsSoFar text p (ply ∷ plies) zero n = ⊥
IsSoFar text p (ply ∷ plies) (suc zero) n = n ≡ far_from text p
IsSoFar text p (ply ∷ plies) (suc (suc k)) n = IsSoFar text (after p ply.mv) plies (suc k) n

-- The ply with this number is as near as any.
abbrev pub IsNearest : List ℕ → Parts → List Ply → ℕ → Type 0
IsNearest text p plies k = (n : ℕ) × IsSoFar text p plies k n × NoneNearer text p plies n
