-- What a host tells a recorder: entries, one behind the other. An entry is a line, as in a file of times; some lines say how many
-- bytes stand behind them. Bytes are in the order in which they stand.
use Rattle.std.specs.Prelude.{◌≡◌, ◌≤◌, ℕ, Bool, true, false, List, ◌++◌, Some, None, length}
use Rattle.board_times.specs.declared.words.Word.TheVariants.{Wake, Lent, Number, Kept, Capture, Text}
use Rattle.board_times.specs.declared.lines.Tail.{Tail}
use Rattle.board_times.specs.declared.lines.Line.{Line}
use Rattle.board_times.specs.declared.events.What.TheVariants.{Hears, Adds, Brings}
use Rattle.board_times.specs.Lines.{Fits, line_text}
use Rattle.board_times.specs.Times.{tail_of as tail_of_event}
use Rattle.live_lines.specs.declared.entries.What.{What}
use Rattle.live_lines.specs.declared.entries.What.TheVariants.{Happens, Wakes, Lends, WantsText, Owns, KeepsTimes, KeepsBytes}
use Rattle.live_lines.specs.declared.entries.Entry.{Entry}

-- the word and the number of what is told
abbrev pub tail_of : What → Tail
tail_of (Happens what) = tail_of_event what
tail_of Wakes = record { word = Wake; number = None }
tail_of Lends = record { word = Lent; number = None }
tail_of WantsText = record { word = Text; number = None }
tail_of (Owns n) = record { word = Number; number = Some n }
tail_of (KeepsTimes n) = record { word = Kept; number = Some n }
tail_of (KeepsBytes n) = record { word = Capture; number = Some n }

-- the line of an entry
abbrev pub entry_line : Entry → Line
entry_line entry = record { first = entry.at; tail = tail_of entry.what }

-- how many bytes stand behind the line
abbrev pub size_of : What → ℕ
size_of (Happens (Hears n)) = n
size_of (Happens (Adds n)) = n
size_of (Happens (Brings n)) = n
size_of (Owns n) = n
size_of (KeepsTimes n) = n
size_of (KeepsBytes n) = n
size_of _ = 0

-- The bytes behind the line are a file of times.
abbrev pub brings_times : What → Bool
brings_times (KeepsTimes n) = true
brings_times _ = false

-- The bytes behind the line are a capture.
abbrev pub brings_capture : What → Bool
brings_capture (KeepsBytes n) = true
brings_capture _ = false

-- The host asks for the text of the game.
abbrev pub wants_text : What → Bool
wants_text WantsText = true
wants_text _ = false

-- At most so many bytes stand behind a line: a capture has no more.
abbrev pub most : ℕ
most = 67108864

-- an entry: its line, and these bytes behind it
abbrev pub entry_text : Entry → List ℕ → List ℕ
entry_text entry bytes = line_text (entry_line entry) ++ bytes

-- The numbers of its line are below 2 ^ 64, and not too many bytes are told.
abbrev pub IsEntry : Entry → Type 0
IsEntry entry = Fits (entry_line entry) × (size_of entry.what ≤ most)

-- The bytes are as many as the entry says.
abbrev pub IsWhole : Entry → List ℕ → Type 0
IsWhole entry bytes = IsEntry entry × (length bytes ≡ size_of entry.what)
