-- What begins a text of which more may come.
use Rattle.std.specs.Prelude.{◌≡◌, ◌<◌, ◌⊎◌, ℕ, List, ◌∷◌, ◌++◌, length}
use Rattle.live_lines.specs.declared.entries.Entry.{Entry}
use Rattle.live_lines.specs.declared.next.Next.{Next}
use Rattle.live_lines.specs.declared.next.Next.TheVariants.{Told, Waits, Wrong}
use Rattle.live_lines.specs.Entries.{IsEntry, IsWhole, entry_text, size_of}

-- The text has no line feed.
abbrev pub IsOpen : List ℕ → Type 0
IsOpen text = (line rest : List ℕ) → text ≡ line ++ 10 ∷ rest → ⊥

-- No entry begins it yet: it has less than a line, or a line and fewer bytes behind it than that says.
abbrev pub IsUnfinished : List ℕ → Type 0
IsUnfinished text = (IsOpen text × (length text < 64))
    ⊎ ((entry : Entry) × (part : List ℕ) × IsEntry entry × (text ≡ entry_text entry part) × (length part < size_of entry.what))

-- Whatever comes, no entry begins it.
abbrev pub IsWrong : List ℕ → Type 0
IsWrong text = (later : List ℕ) (entry : Entry) (bytes more : List ℕ) → IsWhole entry bytes → text ++ later ≡ entry_text entry bytes ++ more → ⊥

-- An entry, its bytes and the rest; or more is wanted; or nothing helps.
abbrev pub IsNext : List ℕ → Next → Type 0
IsNext text (Told told) = IsWhole told.entry told.bytes.now × (text ≡ entry_text told.entry told.bytes.now ++ told.rest.now)
IsNext text Waits = IsUnfinished text
IsNext text Wrong = IsWrong text

-- This entry is told, with these bytes and this rest.
abbrev pub Tells : Next → Entry → List ℕ → List ℕ → Type 0
Tells (Told told) entry bytes rest = (told.entry ≡ entry) × (told.bytes.now ≡ bytes) × (told.rest.now ≡ rest)
Tells Waits entry bytes rest = ⊥
Tells Wrong entry bytes rest = ⊥
