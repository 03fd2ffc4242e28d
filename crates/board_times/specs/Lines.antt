-- The lines of the file of times: a number, a word, and with some words another number.
use Rattle.std.specs.Prelude.{◌≡◌, ◌<◌, ◌^◌, ℕ, List, [], ◌∷◌, ◌++◌, Option, Some, None, decimal, ⊤}
use Rattle.board_times.specs.declared.lines.Tail.{Tail}
use Rattle.board_times.specs.declared.lines.Line.{Line}
use Rattle.board_times.specs.Words.{word_text}

-- a blank and a number, if there is one
abbrev pub number_text : Option ℕ → List ℕ
number_text None = []
number_text (Some n) = 32 ∷ decimal n

-- a word, and its number
abbrev pub tail_text : Tail → List ℕ
tail_text tail = word_text tail.word ++ number_text tail.number

-- a line, with its line feed
abbrev pub line_text : Line → List ℕ
line_text line = (decimal line.first ++ 32 ∷ tail_text line.tail) ++ 10 ∷ []

-- Numbers are below 2 ^ 64.
abbrev pub NumberFits : Option ℕ → Type 0
NumberFits None = ⊤
NumberFits (Some n) = n < 2 ^ 64

abbrev pub Fits : Line → Type 0
Fits line = (line.first < 2 ^ 64) × NumberFits line.tail.number

-- A text begins with no line.
abbrev pub BeginsNoLine : List ℕ → Type 0
BeginsNoLine text = (line : Line) (more : List ℕ) → Fits line → text ≡ line_text line ++ more → ⊥
