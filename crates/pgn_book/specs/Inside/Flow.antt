-- The same text as it is written, token after token.
use Rattle.std.specs.Prelude.{◌≡◌, ℕ, ◌+◌, ◌-◌, ◌^◌, ◌<◌, min, List, [], ◌∷◌, ◌++◌, length, take, Option, Bool, true, false, nat_eq, nat_le, if◌then◌else◌}
use Rattle.std.specs.Io.KnownBytes.{Appends, Keeps}
use Rattle.pgn_book.specs.declared.place.Place.{Place}

-- what a token adds behind a line of this length, and the length of the line that it then stands in; 0 is before the
-- first token
abbrev pub piece : ℕ → List ℕ → List ℕ
piece col t = if nat_eq col 0 then t else if nat_le (col + 1 + length t) 79 then 32 ∷ t else 10 ∷ t

abbrev pub column : ℕ → List ℕ → ℕ
column col t = if nat_eq col 0 then length t else if nat_le (col + 1 + length t) 79 then col + 1 + length t else length t

-- all that the tokens add
abbrev pub flow : ℕ → List (List ℕ) → List ℕ
flow col [] = []
flow col (t ∷ ts) = piece col t ++ flow (column col t) ts

abbrev pub column_after : ℕ → List (List ℕ) → ℕ
column_after col [] = col
column_after col (t ∷ ts) = column_after (column col t) ts

-- a text came whole behind the known bytes, and base + its length is total, which stops at 2^64 - 1
pub record HasAdded (old new : Option (List ℕ)) (base : ℕ) (text : List ℕ) (total : ℕ) : Type 0 where
  pub bytes : Appends old new text
  pub count : total ≡ min (base + length text) (2 ^ 64 - 1)

-- only a front of it came
abbrev pub Stops : Option (List ℕ) → Option (List ℕ) → ℕ → List ℕ → ℕ → Type 0
Stops old new base text total = (n : ℕ) × (n < length text) × HasAdded old new base (take n text) total

-- a text was written, unless the stream failed before it or in it
abbrev pub AddsFrom : Option (List ℕ) → Option (List ℕ) → Bool → ℕ → Bool → ℕ → List ℕ → Type 0
AddsFrom old new true base failed total text = Keeps old new × (failed ≡ true) × (total ≡ base)
AddsFrom old new false base true total text = Stops old new base text total
AddsFrom old new false base false total text = HasAdded old new base text total

abbrev pub Adds : Option (List ℕ) → Option (List ℕ) → Bool → Bool → Place → Place → List ℕ → Type 0
Adds old new failed failed' from to text = AddsFrom old new failed from.written failed' to.written text

-- tokens were written, in the same sense
pub record Writes (old new : Option (List ℕ)) (failed failed' : Bool) (from to : Place) (tokens : List (List ℕ)) : Type 0 where
  pub adds : Adds old new failed failed' from to (flow from.column tokens)
  pub column : to.column ≡ column_after from.column tokens
