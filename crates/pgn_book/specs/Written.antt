-- What stands after a write that failed.
use Rattle.std.specs.Prelude.{◌≡◌, ℕ, ◌-◌, ◌^◌, ◌<◌, min, List, length, take, Option}
use Rattle.std.specs.Io.KnownBytes.{Appends}

-- The first n bytes of the text were written, and not all; the count is n, or stands still at 2^64 - 1.
abbrev pub AppendsFront : Option (List ℕ) → Option (List ℕ) → List ℕ → ℕ → Type 0
AppendsFront old new text count = (n : ℕ) × (n < length text) × (count ≡ min n (2 ^ 64 - 1)) × Appends old new (take n text)
