-- What was told, entry by entry. Entries are listed with the latest first, events in their order.
use Rattle.std.specs.Prelude.{◌≡◌, ℕ, Bool, true, false, List, [], ◌∷◌}
use Rattle.board_times.specs.declared.events.Event.{Event}
use Rattle.board_times.specs.declared.fitting.Fit.{Fit}
use Rattle.board_times.specs.declared.fitting.Fit.TheVariants.{Another}
use Rattle.board_times.specs.declared.reading.Found.{Found}
use Rattle.board_times.specs.declared.reading.Found.TheVariants.{Times}
use Rattle.board_times.specs.Fitting.{fit_of}
use Rattle.board_times.specs.Times.{IsFound}
use Rattle.live_lines.specs.declared.entries.Entry.{Entry}
use Rattle.live_lines.specs.declared.entries.What.{What}
use Rattle.live_lines.specs.declared.entries.What.TheVariants.{KeepsTimes, KeepsBytes}
use Rattle.live_lines.specs.Entries.{brings_capture}

-- an entry, with the bytes behind it; and if they are a capture, the events of its file of times
pub record Heard : Type 0 where
  pub entry : Entry
  pub bytes : List ℕ
  pub events : List Event

-- The file of times that waits for its capture: the last one that was told. A capture takes it.
abbrev pub waiting_by : What → List ℕ → List ℕ → List ℕ
waiting_by (KeepsTimes n) bytes before = bytes
waiting_by (KeepsBytes n) bytes before = []
waiting_by _ bytes before = before

abbrev pub waiting : List Heard → List ℕ
waiting [] = []
waiting (heard ∷ past) = waiting_by heard.entry.what heard.bytes (waiting past)

-- A file of times that is of another capture, or can't be read, says nothing of this one.
abbrev pub events_by : Fit → List Event → List Event
events_by Another events = []
events_by _ events = events

abbrev pub events_for : Found → List ℕ → List Event
events_for (Times kept) capture = events_by (fit_of kept capture) kept.events.items
events_for _ capture = []

-- what a file of times says of a capture
abbrev pub AreEventsOf : List ℕ → List ℕ → List Event → Type 0
AreEventsOf times capture events = (found : Found) × IsFound times found × (events ≡ events_for found capture)

abbrev pub HasEvents : Bool → List ℕ → List ℕ → List Event → Type 0
HasEvents true times capture events = AreEventsOf times capture events
HasEvents false times capture events = events ≡ []

-- The events of a capture are those of the file of times that waited for it. No other entry has events.
abbrev pub IsHeard : Heard → List Heard → Type 0
IsHeard heard past = HasEvents (brings_capture heard.entry.what) (waiting past) heard.bytes heard.events
