-- Which number of the game's board is news. Serial numbers are five characters.
use Rattle.std.specs.Prelude.{◌||◌, ℕ, Bool, true, false, if◌then◌else◌, List, Option, Some, None}
use Rattle.std.specs.Str.{bytes_eq}
use Rattle.board_cable.specs.declared.happened.What.TheVariants.{Owns}
use Rattle.board_live.specs.declared.happened.What.{What}
use Rattle.board_live.specs.declared.happened.What.TheVariants.{Cable}

-- The host itself tells the number now.
abbrev pub is_told : What → Bool
is_told (Cable (Owns number)) = true
is_told _ = false

-- This is the number, if there is one.
abbrev pub is_number : List ℕ → Option (List ℕ) → Bool
is_number number None = false
is_number number (Some other) = bytes_eq number other

-- The number is news if it is the first, or another one than before, unless the host itself tells it now.
abbrev pub number_news : What → Option (List ℕ) → Option (List ℕ) → Option (List ℕ)
number_news what before None = None
number_news what before (Some number) = if is_told what || is_number number before then None else Some number
