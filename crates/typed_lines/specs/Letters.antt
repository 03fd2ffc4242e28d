-- The bytes by which what is typed is compared with what PGN has. A text is its list of bytes; what each number means
-- stands beside it.
use Rattle.std.specs.Prelude.{ℕ, ◌==◌, ◌||◌, ◌&&◌, ◌-◌, nat_le, not, Bool, List, filter, map, if◌then◌else◌}

-- from the one byte to the other
abbrev pub is_from : ℕ → ℕ → ℕ → Bool
is_from low high b = nat_le low b && nat_le b high

-- `+`, `#`, `=`, `!` and `?`: a mark behind a move, or what stands before a promotion
abbrev pub is_mark : ℕ → Bool
is_mark b = b == 43 || b == 35 || b == 61 || b == 33 || b == 63

-- the letter O where a nought stands
abbrev pub castling_letter : ℕ → ℕ
castling_letter b = if b == 48 then 79 else b

-- a move's text without its marks, castling with the letter O
abbrev pub bare : List ℕ → List ℕ
bare text = map castling_letter (filter (λ b. not (is_mark b)) text)

-- a letter or a digit, but for the `x` of a capture
abbrev pub is_letter : ℕ → Bool
is_letter b = (is_from 48 57 b || is_from 65 90 b || is_from 97 122 b) && not (b == 88) && not (b == 120)

-- its capital letter
abbrev pub capital : ℕ → ℕ
capital b = if is_from 97 122 b then b - 32 else castling_letter b

-- a text's letters and digits alone, in capitals
abbrev pub letters : List ℕ → List ℕ
letters text = map capital (filter is_letter text)

-- The letter of a piece in PGN that is another one elsewhere: S and C for the knight, L, F and A for the bishop, T for
-- the rook, D for the queen.
abbrev pub english_letter : ℕ → ℕ
english_letter b = if b == 83 || b == 67 then 78 else (if b == 76 || b == 70 || b == 65 then 66 else (if b == 84 then 82 else (if b == 68 then 81 else b)))

-- a text with the letters of PGN
abbrev pub in_english : List ℕ → List ℕ
in_english text = map english_letter text
