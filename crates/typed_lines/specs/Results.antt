-- How a result is typed.
use Rattle.std.specs.Prelude.{ℕ, ◌==◌, ◌||◌, not, Bool, List, [], ◌∷◌, filter, map, codes, Option, None, Some, if◌then◌else◌}
use Rattle.std.specs.List.{list_any}
use Rattle.std.specs.Str.{bytes_eq}
use Rattle.settle_core.specs.declared.plies.Outcome.{Outcome}
use Rattle.settle_core.specs.declared.plies.Outcome.TheVariants.{WhiteWins, BlackWins, Drawn}
use Rattle.typed_lines.specs.Words.{is_blank}

-- A colon or a dash in place of the hyphen. Of a dash in UTF-8, E2 80 93 or E2 80 94, only the last byte is kept, and
-- so it is of the sign for a half, C2 BD.
abbrev pub hyphen : ℕ → ℕ
hyphen b = if b == 58 || b == 147 || b == 148 then 45 else b

abbrev pub is_kept : ℕ → Bool
is_kept b = not (is_blank b || b == 226 || b == 128 || b == 194)

-- a text without blanks, with hyphens
abbrev pub spelt : List ℕ → List ℕ
spelt text = map hyphen (filter is_kept text)

-- the sign for a half (BD), alone, twice, and in place of either `1/2`
abbrev pub half_spellings : List (List ℕ)
half_spellings = (189 ∷ []) ∷ (189 ∷ 45 ∷ 189 ∷ []) ∷ (49 ∷ 47 ∷ 50 ∷ 45 ∷ 189 ∷ []) ∷ (189 ∷ 45 ∷ 49 ∷ 47 ∷ 50 ∷ []) ∷ []

-- the spellings of each result: that of PGN (section 8.1.1.7), and for a draw `1/2`, `=`, and those with the sign
abbrev pub spells_half : List ℕ → Bool
spells_half text = list_any (bytes_eq text) half_spellings

abbrev pub spells_draw : List ℕ → Bool
spells_draw text = bytes_eq text (codes "1/2-1/2") || bytes_eq text (codes "1/2") || bytes_eq text (codes "=") || spells_half text

abbrev pub outcome_spelt : List ℕ → Option Outcome
outcome_spelt text = if bytes_eq text (codes "1-0") then Some WhiteWins else (if bytes_eq text (codes "0-1") then Some BlackWins
    else (if spells_draw text then Some Drawn else None))

-- the result that a text is, if it is one
abbrev pub result_of : List ℕ → Option Outcome
result_of text = outcome_spelt (spelt text)
