-- What a typed line says, in one line: a kind, and what a sentence about it needs.
use Rattle.std.specs.Prelude.{ℕ, ◌==◌, ◌||◌, nat_lt, List, ◌++◌, codes, decimal, length, map, if◌then◌else◌}
use Rattle.settle_core.specs.declared.plies.Outcome.{Outcome}
use Rattle.settle_core.specs.declared.plies.Outcome.TheVariants.{WhiteWins, BlackWins, Drawn}
use Rattle.typed_lines.specs.declared.reading.Typed.{Typed}
use Rattle.typed_lines.specs.declared.reading.Typed.TheVariants as typed

abbrev pub outcome_text : Outcome → List ℕ
outcome_text WhiteWins = codes "1-0\n"
outcome_text BlackWins = codes "0-1\n"
outcome_text Drawn = codes "1/2-1/2\n"

-- a byte as it is printed: a control character, which would change a terminal, as a question mark
abbrev pub printed : ℕ → ℕ
printed byte = if nat_lt byte 32 || byte == 127 then 63 else byte

-- a word, behind how many moves of the line stand before it
abbrev pub word_text : ℕ → List ℕ → List ℕ
word_text number word = decimal number ++ (codes " " ++ map printed word)

-- how many moves, or which result; or why it says neither
abbrev pub said_line : Typed → List ℕ
said_line (typed.Moves moves) = codes "moves " ++ (decimal (length moves.items) ++ codes "\n")
said_line (typed.Result outcome) = codes "result " ++ outcome_text outcome
said_line typed.Nothing = codes "nothing\n"
said_line typed.Reopens = codes "reopen\n"
said_line typed.Mixed = codes "mixed\n"
said_line (typed.Meant word number san) = codes "meant " ++ (word_text number word.now ++ (codes " " ++ (san.bytes ++ codes "\n")))
said_line (typed.Illegal word number) = codes "illegal " ++ (word_text number word.now ++ codes "\n")
said_line (typed.Unknown word number) = codes "unknown " ++ (word_text number word.now ++ codes "\n")
said_line (typed.Misnumbered word number) = codes "misnumbered " ++ (word_text number word.now ++ codes "\n")
