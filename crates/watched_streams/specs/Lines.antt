-- The form of a line that tells of an event.
use Rattle.std.specs.Prelude.{ℕ, List, ◌++◌, codes, decimal}

-- a line on an event: the offset of the byte at which it came, and what is said of it
abbrev pub line : ℕ → List ℕ → List ℕ
line offset words = decimal offset ++ codes " " ++ words ++ codes "\n"
