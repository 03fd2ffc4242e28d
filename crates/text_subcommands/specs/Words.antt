-- The words of a text.
use Rattle.std.specs.Prelude.{ℕ, ◌==◌, ◌||◌, not, Bool, List, filter, length}
use Rattle.std.specs.List.{slice_split}

-- a space, a tab, or a byte of an end of line
abbrev pub is_blank : ℕ → Bool
is_blank b = b == 32 || b == 9 || b == 13 || b == 10

-- what stands between the blanks
abbrev pub parts : List ℕ → List (List ℕ)
parts text = slice_split is_blank text

-- those that aren't empty
abbrev pub filled : List (List ℕ) → List (List ℕ)
filled = filter (λ part. not (length part == 0))

-- the words: what stands between the blanks, where that isn't empty
abbrev pub words : List ℕ → List (List ℕ)
words text = filled (parts text)
