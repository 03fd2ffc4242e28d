-- The lines of a movetext. Characters are bytes: 32 is a space, 10 is LF.
use Rattle.std.specs.Prelude.{◌≡◌, ℕ, ◌+◌, ◌<◌, ◌≤◌, List, [], ◌∷◌, ◌++◌, length}
use Rattle.std.specs.List.{flat_map, AllByRecursion}

-- a line without its end: its first token, and each other one with a space before it
abbrev pub line_text : List (List ℕ) → List ℕ
line_text [] = []
line_text (token ∷ tokens) = token ++ flat_map (λ other. 32 ∷ other) tokens

-- a line has at least one token and at most 79 characters
abbrev pub IsLine : List (List ℕ) → Type 0
IsLine line = (0 < length line) × (length (line_text line) ≤ 79)

abbrev pub first_length : List (List ℕ) → ℕ
first_length [] = 0
first_length (token ∷ tokens) = length token

-- No line has room for a space and the next line's first token.
abbrev pub AreFull : List (List (List ℕ)) → Type 0
AreFull [] = Unit {0}
AreFull (line ∷ []) = Unit {0}
AreFull (line ∷ next ∷ lines) = (79 < length (line_text line) + 1 + first_length next) × AreFull (next ∷ lines)

-- These lines have these tokens, in order.
pub record AreLines (tokens : List (List ℕ)) (lines : List (List (List ℕ))) : Type 0 where
  pub whole : flat_map (λ line. line) lines ≡ tokens
  pub each : AllByRecursion IsLine lines
  pub full : AreFull lines

-- each line with its end
abbrev pub lines_text : List (List (List ℕ)) → List ℕ
lines_text lines = flat_map (λ line. line_text line ++ 10 ∷ []) lines

-- The text is that of these tokens, put on lines.
abbrev pub IsMovetext : List (List ℕ) → List ℕ → Type 0
IsMovetext tokens text = (lines : List (List (List ℕ))) × AreLines tokens lines × (text ≡ lines_text lines)

-- a token that fits a line
abbrev pub IsToken : List ℕ → Type 0
IsToken token = (0 < length token) × (length token ≤ 79)
