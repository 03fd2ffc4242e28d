-- The file of times: a heading, and a line for each event. Events stand in their order.
use Rattle.std.specs.Prelude.{◌≡◌, ◌≢◌, ◌<◌, ◌^◌, ℕ, List, [], ◌∷◌, ◌++◌, Option, Some, None, length, ⊤}
use Rattle.board_times.specs.declared.words.Word.TheVariants.{Version, Digest, Begin, Away, Opened, Answered, Gone, Called, Heard, Added, Brought, Stopped, Asked, Took, Over, Looked, Back, Reopened, Suspect}
use Rattle.board_times.specs.declared.lines.Tail.{Tail}
use Rattle.board_times.specs.declared.lines.Line.{Line}
use Rattle.board_times.specs.declared.events.What.{What}
use Rattle.board_times.specs.declared.events.What.TheVariants.{Begins, IsAway, Opens, Answers, Goes, Calls, Hears, Adds, Brings, Stops, Asks, Takes, Ends, Looks, PutsBack, Reopens, Suspects}
use Rattle.board_times.specs.declared.events.Event.{Event}
use Rattle.board_times.specs.declared.events.Heading.{Heading}
use Rattle.board_times.specs.declared.reading.Found.{Found}
use Rattle.board_times.specs.declared.reading.Found.TheVariants.{Missing, Unreadable, Newer, Times}
use Rattle.board_times.specs.Lines.{Fits, NumberFits, line_text}

-- the word and the number of what happens
abbrev pub tail_of : What → Tail
tail_of (Begins n) = record { word = Begin; number = Some n }
tail_of (IsAway n) = record { word = Away; number = Some n }
tail_of Opens = record { word = Opened; number = None }
tail_of Answers = record { word = Answered; number = None }
tail_of Goes = record { word = Gone; number = None }
tail_of Calls = record { word = Called; number = None }
tail_of (Hears n) = record { word = Heard; number = Some n }
tail_of (Adds n) = record { word = Added; number = Some n }
tail_of (Brings n) = record { word = Brought; number = Some n }
tail_of (Stops n) = record { word = Stopped; number = Some n }
tail_of (Asks n) = record { word = Asked; number = Some n }
tail_of Takes = record { word = Took; number = None }
tail_of (Ends n) = record { word = Over; number = Some n }
tail_of Looks = record { word = Looked; number = None }
tail_of PutsBack = record { word = Back; number = None }
tail_of Reopens = record { word = Reopened; number = None }
tail_of (Suspects n) = record { word = Suspect; number = Some n }

-- the line of an event
abbrev pub line_of : Event → Line
line_of event = record { first = event.at; tail = tail_of event.what }

-- the lines of events
abbrev pub lines_of : List Event → List ℕ
lines_of [] = []
lines_of (event ∷ events) = line_text (line_of event) ++ lines_of events

-- the heading: the version 1 and the generation; how many bytes the capture had, and their digest
abbrev pub version_line : ℕ → Option ℕ → Line
version_line version generation = record { first = version; tail = record { word = Version; number = generation } }

abbrev pub digest_line : ℕ → ℕ → Line
digest_line size digest = record { first = size; tail = record { word = Digest; number = Some digest } }

abbrev pub heading_text : Heading → List ℕ
heading_text heading = line_text (version_line 1 (Some heading.generation)) ++ line_text (digest_line heading.size heading.digest)

-- The line of an event begins a text.
abbrev pub BeginsNoEvent : List ℕ → Type 0
BeginsNoEvent text = (event : Event) (more : List ℕ) → Fits (line_of event) → text ≡ line_text (line_of event) ++ more → ⊥

-- Their numbers are below 2 ^ 64.
abbrev pub AllFit : List Event → Type 0
AllFit [] = ⊤
AllFit (event ∷ events) = Fits (line_of event) × AllFit events

-- A text is the lines of these events and so many bytes, which begin with no event's line.
abbrev pub AreRead : List ℕ → List Event → ℕ → Type 0
AreRead text events n = (rest : List ℕ) × (text ≡ lines_of events ++ rest) × (length rest ≡ n) × AllFit events × BeginsNoEvent rest

abbrev pub HeadingFits : Heading → Type 0
HeadingFits heading = (heading.generation < 2 ^ 64) × (heading.size < 2 ^ 64) × (heading.digest < 2 ^ 64)

-- No heading of this version begins a text.
abbrev pub BeginsNoHeading : List ℕ → Type 0
BeginsNoHeading text = (heading : Heading) (more : List ℕ) → HeadingFits heading → text ≡ heading_text heading ++ more → ⊥

-- A line of another version begins a text.
abbrev pub HasVersion : List ℕ → ℕ → Type 0
HasVersion text version = (number : Option ℕ) × (more : List ℕ) × (version ≢ 1) × (version < 2 ^ 64) × NumberFits number
    × (text ≡ line_text (version_line version number) ++ more)

-- What stands in a text: nothing; another version; what is no file of times; or a heading and events.
abbrev pub IsFound : List ℕ → Found → Type 0
IsFound text Missing = text ≡ []
IsFound text (Newer version) = HasVersion text version
IsFound text Unreadable = (text ≢ []) × BeginsNoHeading text × ((version : ℕ) → HasVersion text version → ⊥)
IsFound text (Times kept) = (body : List ℕ) × HeadingFits kept.heading × (text ≡ heading_text kept.heading ++ body)
    × AreRead body kept.events.items kept.rest
