-- What a host keeps of a call in its two files, and what a recorder makes of them that begins again. Entries and turns are listed with
-- the latest first, events and bytes stand in their order.
use Rattle.std.specs.Prelude.{◌≡◌, ◌⊎◌, ◌+◌, ◌≤◌, ℕ, true, false, List, [], ◌∷◌, ◌++◌, length}
use Rattle.board_cable.specs.Keeping.{kept}
use Rattle.board_cable.specs.Turns.{Told, Turn}
use Rattle.board_live.specs.Moments.{already, cabled}
use Rattle.board_live.specs.Restarts.{as_filed}
use Rattle.board_times.specs.declared.events.Event.{Event}
use Rattle.board_times.specs.declared.events.What.{What as Happening}
use Rattle.board_times.specs.declared.events.What.TheVariants.{Begins, Hears}
use Rattle.board_times.specs.Fitting.{covered, covered_after}
use Rattle.live_lines.specs.declared.entries.What.{What}
use Rattle.live_lines.specs.declared.entries.What.TheVariants.{Happens}
use Rattle.live_lines.specs.Clock.{began_by, capped, clock_after, first_clock}
use Rattle.live_lines.specs.Entries.{IsWhole, brings_capture, brings_times}
use Rattle.live_lines.specs.Heard.{Heard}
use Rattle.live_lines.specs.History.{coming, history_of}
use Rattle.live_lines.specs.Meaning.{meaning_of, moments}

-- An event that is told has its line. What the board sends has one only as far as the capture gets it.
abbrev pub line_by : ℕ → Happening → List Event
line_by at (Hears n) = []
line_by at what = record { at = at; what = what } ∷ []

abbrev pub line_of : ℕ → What → List Event
line_of at (Happens what) = line_by at what
line_of at other = []

abbrev pub heard_line : ℕ → List ℕ → List Event
heard_line at [] = []
heard_line at (byte ∷ bytes) = record { at = at; what = Hears (length (byte ∷ bytes)) } ∷ []

-- The events of NAME.times after a call, if it had these before: one line for each entry, and then one for the bytes that the capture
-- gets.
abbrev pub events_after : List Event → List Heard → List Turn → List Event
events_after before [] turns = before
events_after before (heard ∷ call) [] = before
events_after before (heard ∷ call) (turn ∷ turns) =
    (events_after before call turns ++ line_of heard.entry.at heard.entry.what) ++ heard_line heard.entry.at (kept (turn ∷ turns))

-- The bytes of NAME.dgt after a call, if it had these before: those that are added by hand or come over another cable, and those that the recorder keeps.
abbrev pub bytes_after : List ℕ → List Heard → List Turn → List ℕ
bytes_after before [] turns = before
bytes_after before (heard ∷ call) [] = before
bytes_after before (heard ∷ call) (turn ∷ turns) =
    (bytes_after before call turns ++ already (meaning_of heard.entry.what heard.bytes) heard.bytes) ++ kept (turn ∷ turns)

-- how many bytes come with these events, if so many have come before
abbrev pub coming_in : ℕ → List Event → ℕ
coming_in size [] = 0
coming_in size (event ∷ events) = coming event.what size + coming_in (covered_after event.what size) events

-- What is told before a call: nothing; or the two files of the calls before. With the events of the file of times come as many bytes
-- as it accounts for, and the capture has these.
abbrev pub TellsFiles : List Heard → List Event → List ℕ → Type 0
TellsFiles [] events capture = (events ≡ []) × (capture ≡ [])
TellsFiles (file ∷ []) events capture = ⊥
TellsFiles (file ∷ times ∷ []) events capture = (brings_times times.entry.what ≡ true) × (times.entry.at ≡ 0) × (brings_capture file.entry.what ≡ true)
    × (file.events ≡ events) × (file.bytes ≡ capture) × (coming_in 0 events ≡ covered 0 events) × (covered 0 events ≤ length capture)
TellsFiles (file ∷ times ∷ other ∷ more) events capture = ⊥

-- Its time isn't before that of an entry that was told earlier.
abbrev pub IsInOrder : Heard → List Heard → Type 0
IsInOrder heard past = (clock_after past).last ≤ capped (began_by heard.entry.what (clock_after past).last (clock_after past).began + heard.entry.at)

-- A call begins with it.
abbrev pub IsBeginning : What → Type 0
IsBeginning what = (size : ℕ) × (what ≡ Happens (Begins size))

-- A call: its first entry says that it begins, and how many bytes the capture has. No other entry begins one or brings a capture.
abbrev pub IsCall : ℕ → List Heard → List Heard → Type 0
IsCall size [] base = ⊥
IsCall size (heard ∷ []) base = (heard.entry.what ≡ Happens (Begins size)) × IsWhole heard.entry heard.bytes × IsInOrder heard base
IsCall size (heard ∷ one ∷ call) base = IsCall size (one ∷ call) base × (IsBeginning heard.entry.what → ⊥) × (brings_capture heard.entry.what ≡ false)
    × IsWhole heard.entry heard.bytes × IsInOrder heard (one ∷ call ++ base)

-- when the call begins, on its own clock
abbrev pub begins_at : List Heard → ℕ
begins_at [] = 0
begins_at (heard ∷ []) = heard.entry.at
begins_at (heard ∷ one ∷ call) = begins_at (one ∷ call)

-- Each byte of the capture has its time. Or the last bytes have none, as after a kill, and the clock of the call starts when it begins:
-- then they came at the last time of the calls before.
abbrev pub IsTimed : List Event → List ℕ → List Heard → Type 0
IsTimed events capture call = (covered 0 events ≡ length capture) ⊎ (begins_at call ≡ 0)

-- The history that a recorder makes of the two files as they are after a call is what the law on restarts speaks of.
abbrev pub FilesAreAsFiled : Type 0
FilesAreAsFiled = (call base : List Heard) (events : List Event) (capture : List ℕ) (turns : List Turn) → Told (cabled (moments (call ++ base))) turns
    → TellsFiles base events capture → IsCall (length capture) call base → IsTimed events capture call
    → history_of first_clock (events_after events call turns) (bytes_after capture call turns) [] ≡ as_filed (moments (call ++ base)) turns
