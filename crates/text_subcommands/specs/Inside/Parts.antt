-- How far the words of a text were read.
use Rattle.std.specs.Prelude.{ℕ, ◌+◌, List, [], length, Option, None, Some}
use denote.Ref.{Bor}
use Rattle.text_subcommands.specs.Words.{parts}

-- the parts behind a blank, if there is one, and how many bytes the blank and they have
abbrev pub parts_behind : Option (Bor (List ℕ)) → List (List ℕ)
parts_behind None = []
parts_behind (Some behind) = parts behind.now

abbrev pub len_behind : Option (Bor (List ℕ)) → ℕ
len_behind None = 0
len_behind (Some behind) = length behind.now + 1
