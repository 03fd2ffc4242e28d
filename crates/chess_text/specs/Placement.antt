-- The placement field: a picture in text. A picture is 64 codes in reading order from a8 to h1: 0 is empty, 1 to 6 are
-- White's pawn, rook, knight, bishop, king and queen, 7 to 12 Black's, and 13 to 15 stand for no piece.
use Rattle.std.specs.Prelude.{◌≡◌, ℕ, zero, suc, ◌+◌, ◌-◌, ◌*◌, ◌<◌, List, [], ◌∷◌, ◌++◌, length, take, drop, get_or, map, replicate, codes, slice_index_or, position, Option, None, Some, unwrap_or, ◌==◌, nat_lt, ◌&&◌, if◌then◌else◌, All}
use Rattle.std.specs.List.{flat_map, join_with_byte}

-- the letters of the codes 1 to 12 in order; the first byte, `*`, stands for no piece
abbrev pub code_letters : List ℕ
code_letters = codes "*PRNBKQprnbkq"

-- the letter of a code, `*` past the last
abbrev pub code_letter : ℕ → ℕ
code_letter c = slice_index_or code_letters c 42

-- ---- the rule, on whole texts

abbrev pub IsDigit : ℕ → Type 0
IsDigit b = (47 < b) × (b < 58)

-- no two digits stand side by side
abbrev pub HasDigitsApart : List ℕ → Type 0
HasDigitsApart [] = Unit {0}
HasDigitsApart (b ∷ []) = Unit {0}
HasDigitsApart (b ∷ c ∷ bs) = (IsDigit b → IsDigit c → ⊥) × HasDigitsApart (c ∷ bs)

-- what a byte of a rank's text stands for: a digit from 1 to 8 for so many empty squares, any other byte for a piece
abbrev pub expand : ℕ → List (Option ℕ)
expand b = if nat_lt 48 b && nat_lt b 57 then replicate (b - 48) None else Some b ∷ []

-- what a square is shown by: a piece by its letter
abbrev pub shown : ℕ → Option ℕ
shown c = if c == 0 then None else Some (code_letter c)

-- The text of a rank: byte by byte it shows the squares, and empty squares that stand side by side are one number.
pub record IsRankText (rank text : List ℕ) : Type 0 where
  pub shows : flat_map expand text ≡ map shown rank
  pub apart : HasDigitsApart text

-- The text of a picture: those of its eight ranks, rank 8 first, with `/` between.
pub record IsPlacement (picture text : List ℕ) : Type 0 where
  pub ranks : List (List ℕ)
  pub eight : length ranks ≡ 8
  pub text_is : text ≡ join_with_byte 47 ranks
  pub each : (k : ℕ) → k < 8 → IsRankText (take 8 (drop (8 * k) picture)) (get_or ranks k [])

-- ---- the one text of that rule, computed

-- a run of empty squares as its number
abbrev pub run_text : ℕ → List ℕ
run_text n = if n == 0 then [] else (48 + n) ∷ []

-- the squares of a rank that stand behind a run of n empty ones
abbrev pub rank_text : ℕ → List ℕ → List ℕ
rank_text n [] = run_text n
rank_text n (c ∷ cs) = if c == 0 then rank_text (n + 1) cs else run_text n ++ code_letter c ∷ rank_text 0 cs

-- k more ranks, each behind a `/`
unfoldable pub ranks_text : ℕ → List ℕ → List ℕ
ranks_text zero picture = []
ranks_text (suc k) picture = 47 ∷ rank_text 0 (take 8 picture) ++ ranks_text k (drop 8 picture)

-- eight ranks from rank 8 to rank 1 with `/` between
abbrev pub placement : List ℕ → List ℕ
placement picture = rank_text 0 (take 8 picture) ++ ranks_text 7 (drop 8 picture)

-- ---- and back

-- a picture of a board: no code past 12
pub record IsBoardPicture (picture : List ℕ) : Type 0 where
  pub squares : length picture ≡ 64
  pub codes : All (λ c. c < 13) picture

-- the code of a letter
abbrev pub code_of : ℕ → ℕ
code_of b = unwrap_or (position (λ c. c == b) code_letters) 0

-- what a byte of a placement stands for: a letter for its piece, a digit for so many empty squares, `/` for nothing
abbrev pub squares_at : ℕ → List ℕ
squares_at b = if b == 47 then [] else if nat_lt b 58 then replicate (b - 48) 0 else code_of b ∷ []

-- the squares of a placement
abbrev pub squares : List ℕ → List ℕ
squares text = flat_map squares_at text
