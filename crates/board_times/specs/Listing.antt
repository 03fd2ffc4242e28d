-- What `times` prints of a file of times: a line for its heading, one for each event, and one for what stands behind them. Events
-- stand in their order.
use Rattle.std.specs.Prelude.{ℕ, ◌+◌, ◌-◌, ◌/◌, ◌%◌, ◌==◌, nat_lt, List, [], ◌∷◌, ◌++◌, codes, decimal, if◌then◌else◌}
use Rattle.board_times.specs.declared.events.What.{What}
use Rattle.board_times.specs.declared.events.What.TheVariants.{Begins, IsAway, Opens, Answers, Goes, Calls, Hears, Adds, Brings, Stops, Asks, Takes, Ends, Looks, PutsBack, Reopens, Suspects}
use Rattle.board_times.specs.declared.events.Event.{Event}
use Rattle.board_times.specs.declared.events.Heading.{Heading}
use Rattle.board_times.specs.declared.reading.Kept.{Kept}
use Rattle.board_times.specs.Fitting.{covered_after}

-- a colon and two digits, of a number below 60; a point and three, of one below 1,000
abbrev pub colon_and_two : ℕ → List ℕ
colon_and_two n = 58 ∷ (48 + n / 10) ∷ (48 + n % 10) ∷ []

abbrev pub point_and_three : ℕ → List ℕ
point_and_three n = 46 ∷ (48 + n / 100) ∷ (48 + n / 10 % 10) ∷ (48 + n % 10) ∷ []

-- milliseconds as hours, minutes, seconds and thousandths: 0:00:35.000
abbrev pub clock_text : ℕ → List ℕ
clock_text time = decimal (time / 3600000) ++ colon_and_two (time / 60000 % 60) ++ colon_and_two (time / 1000 % 60) ++ point_and_three (time % 1000)

-- the bytes of a capture from this offset up to another, which is the first behind them
abbrev pub bytes_text : ℕ → ℕ → List ℕ
bytes_text from behind = if nat_lt from behind then codes "bytes " ++ decimal from ++ codes " to " ++ decimal (behind - 1) else codes "no bytes"

-- what happened, where the capture had so many bytes before and has so many behind it
abbrev pub words_of : What → ℕ → ℕ → List ℕ
words_of (Begins size) before behind = codes "a call begins, bytes in the capture: " ++ decimal size
words_of (IsAway time) before behind = codes "nobody had listened before this call for " ++ clock_text time
words_of Opens before behind = codes "the line is open"
words_of Answers before behind = codes "the board behind the serial server answers"
words_of Goes before behind = codes "the line has gone away"
words_of Calls before behind = codes "the serial server is called again"
words_of (Hears count) before behind = bytes_text before behind ++ codes " came"
words_of (Adds count) before behind = bytes_text before behind ++ codes " were added by hand"
words_of (Brings count) before behind = bytes_text before behind ++ codes " came over the cable of another game"
words_of (Stops time) before behind = codes "nobody had listened for " ++ clock_text time
words_of (Asks count) before behind = codes "the board is asked, bytes sent: " ++ decimal count
words_of Takes before behind = codes "the arbiter takes the board on the cable"
words_of (Ends size) before behind = codes "the game is over, its bytes: " ++ decimal size
words_of Looks before behind = codes "somebody has looked: no alarm is open"
words_of PutsBack before behind = codes "the pieces are to be put where they belong"
words_of Reopens before behind = codes "an arbiter reopens the game"
words_of (Suspects n) before behind = codes "the recorder suspects something, its number: " ++ decimal n

-- the line of an event: its time in its call, and what happened
abbrev pub event_line : ℕ → Event → List ℕ
event_line before event = clock_text event.at ++ codes " " ++ words_of event.what before (covered_after event.what before) ++ codes "\n"

abbrev pub event_lines : ℕ → List Event → List ℕ
event_lines before [] = []
event_lines before (event ∷ events) = event_line before event ++ event_lines (covered_after event.what before) events

-- how often the game had gone back, and how many bytes the capture had when the file was begun
abbrev pub heading_line : Heading → List ℕ
heading_line heading = (codes "generation " ++ decimal heading.generation) ++ (codes ", bytes when it began: " ++ decimal heading.size ++ codes "\n")

-- how many bytes stand behind the last event, if any do
abbrev pub rest_line : ℕ → List ℕ
rest_line rest = if rest == 0 then [] else codes "no event, bytes at the end: " ++ decimal rest ++ codes "\n"

-- the whole listing
abbrev pub listing_of : Kept → List ℕ
listing_of kept = heading_line kept.heading ++ event_lines kept.heading.size kept.events.items ++ rest_line kept.rest
