-- What was written to a stream, by what it held and holds.
use Rattle.std.specs.Prelude.{◌≡◌, ◌++◌, ℕ, List, Option}
use Rattle.std.specs.Io.KnownBytes.{Appends}

-- Some first bytes were appended and no other: all of them, or fewer.
abbrev pub AppendsPart : Option (List ℕ) → Option (List ℕ) → List ℕ → Type 0
AppendsPart old new bytes = (front back : List ℕ) × (bytes ≡ front ++ back) × Appends old new front

-- A front of the text was written, and the rest of it waits.
abbrev pub Gathers : Option (List ℕ) → Option (List ℕ) → List ℕ → List ℕ → Type 0
Gathers written written' waiting text = (sent : List ℕ) × (text ≡ sent ++ waiting) × Appends written written' sent
