-- The lines of `follow`, each as a text.
use Rattle.std.specs.Prelude.{ℕ, ◌+◌, ◌==◌, if◌then◌else◌, List, [], ◌∷◌, ◌++◌, codes, slice_index, Option, Some, None}
use Rattle.std.specs.List.{flat_map, range_with_len}
use Rattle.chess_clock.specs.declared.Hms.{Hms}
use Rattle.chess_rules.specs.declared.parts.Parts.{Parts}
use Rattle.chess_text.specs.Squares.{square_text}
use Rattle.settle_core.specs.declared.plies.Outcome.{Outcome}
use Rattle.pgn_book.specs.Movetext.{number_token, result_text, two_digits}

-- h:mm:ss
abbrev pub time_text : Hms → List ℕ
time_text time = (48 + time.hours) ∷ 58 ∷ [] ++ (two_digits time.minutes ++ (58 ∷ two_digits time.seconds))

-- the clock's time behind a move, where there is one
abbrev pub clock_words : Option Hms → List ℕ
clock_words None = []
clock_words (Some time) = codes " " ++ time_text time

-- a move, with its number as the position before it has it, or a correction of the last one
abbrev pub move_words : List ℕ → Parts → List ℕ → Option Hms → List ℕ
move_words word p san clock = word ++ codes " " ++ number_token p.side p.fullmove ++ codes " " ++ san ++ clock_words clock

-- the result, which has become another one
abbrev pub result_words : Option Outcome → List ℕ
result_words result = codes "result " ++ result_text result

-- those of the first squares, so many, on which a picture shows another code than stands there
abbrev pub differing : ℕ → List ℕ → List ℕ → List ℕ
differing count stands seen = flat_map (λ s. if slice_index stands s == slice_index seen s then [] else 32 ∷ square_text s) (range_with_len 0 count)

-- those of all squares
unfoldable pub squares_text : List ℕ → List ℕ → List ℕ
squares_text stands seen = differing 64 stands seen

-- what is said of these squares: none, or some
abbrev pub waiting_words : List ℕ → List ℕ
waiting_words [] = codes "agrees"
waiting_words (byte ∷ bytes) = codes "differs" ++ byte ∷ bytes
