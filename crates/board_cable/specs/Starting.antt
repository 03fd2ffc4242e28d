-- Whether the next request asks for updates too. Events are listed with the latest first.
use Rattle.std.specs.Prelude.{◌≡◌, ℕ, ◌&&◌, ◌||◌, not, Bool, true, false, List, [], ◌∷◌, Option, Some, None}
use Rattle.std.specs.Str.{bytes_eq}
use Rattle.board_cable.specs.declared.line.Event.{Event}
use Rattle.board_cable.specs.declared.line.Happening.{Happening}
use Rattle.board_cable.specs.declared.line.Happening.TheVariants.{Begins, Opens, Updates, Dumps, Asks}
use Rattle.board_cable.specs.declared.starting.Starting.{Starting}

-- the last dump since the line was opened
abbrev pub last_dump_by : Happening → Option (List ℕ) → Option (List ℕ)
last_dump_by (Dumps picture) before = Some picture
last_dump_by Begins before = None
last_dump_by Opens before = None
last_dump_by _ before = before

abbrev pub last_dump : List Event → Option (List ℕ)
last_dump [] = None
last_dump (event ∷ past) = last_dump_by event.what (last_dump past)

-- an update has come since then
abbrev pub updates_by : Happening → Bool → Bool
updates_by Updates before = true
updates_by Begins before = false
updates_by Opens before = false
updates_by (Dumps picture) before = false
updates_by _ before = before

abbrev pub has_updated : List Event → Bool
has_updated [] = false
has_updated (event ∷ past) = updates_by event.what (has_updated past)

-- a dump that shows something else than the one before it
abbrev pub differs : List ℕ → Option (List ℕ) → Bool
differs picture None = false
differs picture (Some last) = not (bytes_eq picture last)

-- The board was never asked for updates, or has forgotten it: since the last request the line was opened, or a dump showed
-- something else than the one before it, and no update had come in between.
abbrev pub start_by : Happening → Option (List ℕ) → Bool → Bool → Bool
start_by Opens last updated before = true
start_by (Dumps picture) last updated before = before || (not updated && differs picture last)
start_by Begins last updated before = false
start_by (Asks request) last updated before = false
start_by _ last updated before = before

abbrev pub is_start : List Event → Bool
is_start [] = false
is_start (event ∷ past) = start_by event.what (last_dump past) (has_updated past) (is_start past)

-- This happened, the latest first.
pub record HasStarting (starting : Starting) (past : List Event) : Type 0 where
  pub dump : starting.dump ≡ last_dump past
  pub updated : starting.has_updated ≡ has_updated past
  pub start : starting.is_start ≡ is_start past
