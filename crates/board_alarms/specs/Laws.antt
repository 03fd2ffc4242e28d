-- What holds of each history. Items are listed with the latest first, alarms in the order in which they came.
use Rattle.std.specs.Prelude.{◌≡◌, ◌≢◌, ◌≤◌, ◌<◌, ◌-◌, ◌/◌, ℕ, Bool, true, false, List, [], ◌∷◌, ◌++◌, Some, None, ⊤}
use Rattle.chess_rules.specs.Valid.{Valid}
use Rattle.board_events.specs.Settings.{Setting}
use Rattle.board_alarms.specs.declared.look.Look.{Look}
use Rattle.board_alarms.specs.declared.look.Look.TheVariants.{Suspected}
use Rattle.board_alarms.specs.declared.look.Told.{Told}
use Rattle.dgt_frame.specs.declared.events.Event.{Event}
use Rattle.board_alarms.specs.declared.chunk.Chunk.{Chunk}
use Rattle.board_alarms.specs.declared.news.News.TheVariants.{Gone, Looked, Suspects}
use Rattle.board_alarms.specs.Gaps.{gap_before}
use Rattle.board_alarms.specs.Hearing.{AreOpen, ClockIsStopped, Tells}
use Rattle.board_alarms.specs.Items.{Item, Noted, Sent, is_sent}
use Rattle.board_alarms.specs.Looking.{Has}

-- From a valid start, one thing is told of what came: so the alarms that are open follow from it.
abbrev pub TellsOnce : Type 0
TellsOnce = (setting : Setting) (items : List Item) (a b : List Told) → Valid setting.start → Tells setting items a → Tells setting items b → a ≡ b

abbrev pub OpensOnce : Type 0
OpensOnce = (setting : Setting) (items : List Item) (a b : List Look) → Valid setting.start → AreOpen setting items a → AreOpen setting items b → a ≡ b

-- And whether the clock is stopped.
abbrev pub StopsOnce : Type 0
StopsOnce = (setting : Setting) (items : List Item) (a b : Bool) → Valid setting.start → ClockIsStopped setting items a → ClockIsStopped setting items b → a ≡ b

-- When somebody has looked, no alarm is open.
abbrev pub LookingEndsAll : Type 0
LookingEndsAll = (setting : Setting) (items : List Item) (at : ℕ) (looks : List Look) → AreOpen setting (Noted at Looked ∷ items) looks → looks ≡ []

-- Both were sent by the board.
abbrev pub AreSent : Chunk → Chunk → Type 0
AreSent last chunk = (is_sent last ≡ true) × (is_sent chunk ≡ true)

-- If the board sends nothing for six seconds, and then fewer dumps than a line that was late brings, it wasn't heard for so long. If it
-- sends something within six seconds it was heard, while its line is there.
abbrev pub QuietIsAGap : Type 0
QuietIsAGap = (last chunk : Chunk) (event : Event) (items : List Item) → AreSent last chunk → let lasted : ℕ = chunk.when.at - last.when.at in
    (6000 ≤ lasted → (chunk.end - last.end) / 67 < lasted / 1000 - 1
    → gap_before chunk (Sent last event ∷ items) ≡ Some (record { lasted = lasted; is_restart = false }))
    × (lasted < 6000 → gap_before chunk (Sent last event ∷ items) ≡ None)

-- While its line was gone it wasn't heard, however short that was.
abbrev pub CutIsAGap : Type 0
CutIsAGap = (last chunk : Chunk) (event : Event) (items : List Item) (at : ℕ) → AreSent last chunk
    → gap_before chunk (Noted at Gone ∷ Sent last event ∷ items) ≡ Some (record { lasted = chunk.when.at - last.when.at; is_restart = false })

-- Nobody says that he has looked.
abbrev pub IsNoLook : Item → Type 0
IsNoLook (Sent chunk event) = ⊤
IsNoLook (Noted at news) = news ≢ Looked

abbrev pub NobodyHasLooked : List Item → Type 0
NobodyHasLooked [] = ⊤
NobodyHasLooked (item ∷ items) = IsNoLook item × NobodyHasLooked items

-- What is suspected is open until then, whatever the board sends, and whatever else happens.
abbrev pub SuspicionStaysOpen : Type 0
SuspicionStaysOpen = (setting : Setting) (n at : ℕ) (items later : List Item) (looks : List Look) → NobodyHasLooked later
    → AreOpen setting (later ++ Noted at (Suspects n) ∷ items) looks → Has (Suspected n) looks
