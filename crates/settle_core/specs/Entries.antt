-- What was seen of a board. Entries are listed with the latest first.
use Rattle.std.specs.Prelude.{ℕ, Bool, false, List, [], ◌∷◌, Option, Some, None, slice_set, if◌then◌else◌}
use Rattle.std.specs.Str.{bytes_eq}
use Rattle.chess_clock.specs.declared.times.Reading.{Reading}

-- A picture, the codes of the 64 squares, and the clocks' reading that came with it.
pub record Entry : Type 0 where
  pub picture : List ℕ
  pub reading : Option Reading

abbrev pub entry_of : List ℕ → Option Reading → Entry
entry_of picture reading = record { picture = picture; reading = reading }

-- the picture that was seen last, if any was
abbrev pub last_picture : List Entry → Option (List ℕ)
last_picture [] = None
last_picture (entry ∷ past) = Some entry.picture

-- the entry's picture in which this square shows this code, at this reading
abbrev pub changed : Entry → ℕ → ℕ → Option Reading → Entry
changed entry square code reading = entry_of (slice_set entry.picture square code) reading

-- whether a picture is that of the entry before it
abbrev pub repeats : List ℕ → List Entry → Bool
repeats picture [] = false
repeats picture (before ∷ past) = bytes_eq picture before.picture

-- the entries that are first or whose picture differs from the one just before: the first of a run stays, with its
-- reading
abbrev pub deduplicated : List Entry → List Entry
deduplicated [] = []
deduplicated (entry ∷ past) = if repeats entry.picture past then deduplicated past else entry ∷ deduplicated past
