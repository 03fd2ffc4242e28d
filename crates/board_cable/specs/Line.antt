-- What has happened on a board's line. Events are listed with the latest first; what the board was sent is among them.
use Rattle.std.specs.Prelude.{ℕ, Bool, true, false, List, [], ◌∷◌, Option, Some, None, if◌then◌else◌, codes}
use Rattle.board_cable.specs.declared.line.Event.{Event}
use Rattle.board_cable.specs.declared.line.Request.{Request}
use Rattle.board_cable.specs.declared.line.Request.TheVariants.{Dump, Numbered, Start}
use Rattle.board_cable.specs.declared.line.Happening.{Happening}
use Rattle.board_cable.specs.declared.line.Happening.TheVariants.{Begins, Opens, Closes, HangsUp, Comes, Faults, Updates, Dumps, Interrupts, Asks}

-- The bytes of a request, by the board's protocol: 45 asks for the serial number, 42 for a dump, 4B for updates.
abbrev pub bytes_of : Request → List ℕ
bytes_of Dump = codes "B"
bytes_of Numbered = codes "EB"
bytes_of Start = codes "EBK"

-- The line is open.
abbrev pub open_by : Happening → Bool → Bool
open_by Opens before = true
open_by Begins before = false
open_by Closes before = false
open_by HangsUp before = false
open_by _ before = before

abbrev pub is_open : List Event → Bool
is_open [] = false
is_open (event ∷ past) = open_by event.what (is_open past)

-- A dump is wanted: the line was opened, a fault came, bytes were added or nobody listened; and no dump has come since.
abbrev pub wanted_by : Happening → Bool → Bool
wanted_by Opens before = true
wanted_by Faults before = true
wanted_by Interrupts before = true
wanted_by Begins before = false
wanted_by (Dumps picture) before = false
wanted_by _ before = before

abbrev pub is_wanted : List Event → Bool
is_wanted [] = false
is_wanted (event ∷ past) = wanted_by event.what (is_wanted past)

-- A request is unanswered: no dump has come since, the line wasn't opened anew, and nothing interrupted.
abbrev pub unanswered_by : Happening → Bool → Bool
unanswered_by (Asks request) before = true
unanswered_by Begins before = false
unanswered_by Opens before = false
unanswered_by (Dumps picture) before = false
unanswered_by Interrupts before = false
unanswered_by _ before = before

abbrev pub is_unanswered : List Event → Bool
is_unanswered [] = false
is_unanswered (event ∷ past) = unanswered_by event.what (is_unanswered past)

-- when the board was last asked since the line was opened
abbrev pub asked_by : Happening → ℕ → Option ℕ → Option ℕ
asked_by (Asks request) at before = Some at
asked_by Begins at before = None
asked_by Opens at before = None
asked_by _ at before = before

abbrev pub asked_at : List Event → Option ℕ
asked_at [] = None
asked_at (event ∷ past) = asked_by event.what event.at (asked_at past)

-- since when a frame is unfinished, with no further byte
abbrev pub unfinished_by : Happening → ℕ → Option ℕ → Option ℕ
unfinished_by (Comes unfinished) at before = if unfinished then Some at else None
unfinished_by Begins at before = None
unfinished_by Opens at before = None
unfinished_by Interrupts at before = None
unfinished_by _ at before = before

abbrev pub unfinished_at : List Event → Option ℕ
unfinished_at [] = None
unfinished_at (event ∷ past) = unfinished_by event.what event.at (unfinished_at past)

-- when the last update came
abbrev pub updated_by : Happening → ℕ → Option ℕ → Option ℕ
updated_by Updates at before = Some at
updated_by Begins at before = None
updated_by Opens at before = None
updated_by _ at before = before

abbrev pub updated_at : List Event → Option ℕ
updated_at [] = None
updated_at (event ∷ past) = updated_by event.what event.at (updated_at past)

-- when the last dump was asked for, or came unasked; or the line was opened
abbrev pub dumped_by : Happening → ℕ → Bool → Option ℕ → Option ℕ → Option ℕ
dumped_by Opens at unanswered asked before = Some at
dumped_by (Dumps picture) at unanswered asked before = if unanswered then asked else Some at
dumped_by Begins at unanswered asked before = None
dumped_by _ at unanswered asked before = before

abbrev pub dumped_at : List Event → Option ℕ
dumped_at [] = None
dumped_at (event ∷ past) = dumped_by event.what event.at (is_unanswered past) (asked_at past) (dumped_at past)
