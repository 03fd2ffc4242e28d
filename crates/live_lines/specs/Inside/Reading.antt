-- How a line is read.
use Rattle.std.specs.Prelude.{ℕ, Option, Some, None}
use Rattle.board_times.specs.declared.words.Word.{Word}
use Rattle.board_times.specs.declared.words.Word.TheVariants.{Wake, Lent, Number, Kept, Capture, Text}
use Rattle.board_times.specs.declared.lines.Line.{Line}
use Rattle.board_times.specs.declared.events.Event.{Event}
use Rattle.board_times.specs.Inside.Reading.{event_of}
use Rattle.live_lines.specs.declared.entries.What.{What}
use Rattle.live_lines.specs.declared.entries.What.TheVariants.{Happens, Wakes, Lends, WantsText, Owns, KeepsTimes, KeepsBytes}
use Rattle.live_lines.specs.declared.entries.Entry.{Entry}

-- what a word and a number tell, if a file of times has no such line
abbrev pub own_what : Word → Option ℕ → Option What
own_what Wake None = Some Wakes
own_what Lent None = Some Lends
own_what Text None = Some WantsText
own_what Number (Some n) = Some (Owns n)
own_what Kept (Some n) = Some (KeepsTimes n)
own_what Capture (Some n) = Some (KeepsBytes n)
own_what _ _ = None

-- that, or the event of a file of times
abbrev pub entry_by : ℕ → Option What → Option Event → Option Entry
entry_by at (Some what) event = Some (record { at = at; what = what })
entry_by at None None = None
entry_by at None (Some event) = Some (record { at = event.at; what = Happens event.what })

-- the entry of a line, if it has one
abbrev pub entry_of : Line → Option Entry
entry_of line = entry_by line.first (own_what line.tail.word line.tail.number) (event_of line)
