-- The words of a typed line.
use Rattle.std.specs.Prelude.{ℕ, ◌==◌, ◌||◌, not, Bool, true, List, [], ◌∷◌, filter, length, if◌then◌else◌}
use Rattle.std.specs.List.{slice_split}
use Rattle.typed_lines.specs.Letters.{is_from}

-- a space, a tab, or a byte of an end of line
abbrev pub is_blank : ℕ → Bool
is_blank b = b == 32 || b == 9 || b == 13 || b == 10

abbrev pub is_filled : List ℕ → Bool
is_filled part = not (length part == 0)

-- what stands behind the digits at the beginning
abbrev pub after_digits : List ℕ → List ℕ
after_digits [] = []
after_digits (b ∷ text) = if is_from 48 57 b then after_digits text else (b ∷ text)

-- what stands behind the dots at the beginning
abbrev pub after_dots : List ℕ → List ℕ
after_dots [] = []
after_dots (b ∷ text) = if b == 46 then after_dots text else (b ∷ text)

abbrev pub begins_with_dot : List ℕ → Bool
begins_with_dot [] = not true
begins_with_dot (b ∷ text) = b == 46

-- a word without the move number before it: digits, and then at least one dot (PGN standard, section 8.2.2)
abbrev pub without_number : List ℕ → List ℕ
without_number word = if begins_with_dot (after_digits word) then after_dots (after_digits word) else word

-- what stands between the blanks, and is more than a move number
abbrev pub typed_words : List ℕ → List (List ℕ)
typed_words text = filter (λ word. is_filled (without_number word)) (slice_split is_blank text)
