-- What has happened on a board's line and still counts. Events are listed with the latest first, times are milliseconds.
use Rattle.std.specs.Prelude.{ℕ, ◌+◌, Bool, true, false, List, [], ◌∷◌, Option, Some, None}
use Rattle.board_cable.specs.declared.line.Event.{Event}
use Rattle.board_cable.specs.declared.line.Request.TheVariants.{Numbered, Start}
use Rattle.board_cable.specs.declared.line.Happening.{Happening}
use Rattle.board_cable.specs.declared.line.Happening.TheVariants.{Begins, Opens, Closes, HangsUp, Faults, Updates, Dumps, Numbers, Interrupts, Asks}

-- One of these happened, and since the last of them none of those.
abbrev pub stands_by : Bool → Bool → Bool → Bool
stands_by true undone before = true
stands_by false true before = false
stands_by false false before = before

abbrev pub stands : (Happening → Bool) → (Happening → Bool) → List Event → Bool
stands does undoes [] = false
stands does undoes (event ∷ past) = stands_by (does event.what) (undoes event.what) (stands does undoes past)

-- when one of these happened last, if none of those has happened since
abbrev pub last_by : Bool → Bool → ℕ → Option ℕ → Option ℕ
last_by true undone at before = Some at
last_by false true at before = None
last_by false false at before = before

abbrev pub last_of : (Happening → Bool) → (Happening → Bool) → List Event → Option ℕ
last_of does undoes [] = None
last_of does undoes (event ∷ past) = last_by (does event.what) (undoes event.what) event.at (last_of does undoes past)

-- how many of these have happened since the last of those
abbrev pub count_by : Bool → Bool → ℕ → ℕ
count_by true undone before = before + 1
count_by false true before = 0
count_by false false before = before

abbrev pub count : (Happening → Bool) → (Happening → Bool) → List Event → ℕ
count does undoes [] = 0
count does undoes (event ∷ past) = count_by (does event.what) (undoes event.what) (count does undoes past)

-- The line is opened.
abbrev pub opens : Happening → Bool
opens Opens = true
opens _ = false

-- The line goes away or is hung up, or a call begins.
abbrev pub shuts : Happening → Bool
shuts Closes = true
shuts HangsUp = true
shuts Begins = true
shuts _ = false

-- The line is opened, or a call begins.
abbrev pub restarts : Happening → Bool
restarts Opens = true
restarts Begins = true
restarts _ = false

abbrev pub begins : Happening → Bool
begins Begins = true
begins _ = false

-- The board is sent a request; one that asks for updates; one that asks for its number without updates.
abbrev pub asks : Happening → Bool
asks (Asks request) = true
asks _ = false

abbrev pub asks_for_updates : Happening → Bool
asks_for_updates (Asks Start) = true
asks_for_updates _ = false

abbrev pub asks_for_number : Happening → Bool
asks_for_number (Asks Numbered) = true
asks_for_number _ = false

-- A dump comes; an update; a number.
abbrev pub dumps : Happening → Bool
dumps (Dumps picture) = true
dumps _ = false

abbrev pub updates : Happening → Bool
updates Updates = true
updates _ = false

abbrev pub numbers : Happening → Bool
numbers (Numbers number) = true
numbers _ = false

-- A request is answered, or isn't waited for any more: a dump comes, the line is opened, a call begins, bytes are added by hand, or
-- nobody listened for a while.
abbrev pub answers : Happening → Bool
answers (Dumps picture) = true
answers Opens = true
answers Begins = true
answers Interrupts = true
answers _ = false

-- What makes a dump wanted: a fault, the opening, bytes that are added by hand, or that nobody listened for a while.
abbrev pub wants : Happening → Bool
wants Faults = true
wants Opens = true
wants Interrupts = true
wants _ = false

-- It isn't wanted any more: a dump comes, or a call begins.
abbrev pub serves : Happening → Bool
serves (Dumps picture) = true
serves Begins = true
serves _ = false
