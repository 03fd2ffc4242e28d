-- How a line is read.
use Rattle.std.specs.Prelude.{ℕ, ◌==◌, not, Bool, List, Option, Some, None, if◌then◌else◌, codes}
use Rattle.std.specs.List.{list_all}
use Rattle.std.specs.Str.{bytes_eq}
use Rattle.board_times.specs.declared.words.Word.{Word}
use Rattle.board_times.specs.declared.words.Word.TheVariants.{Version, Digest, Begin, Away, Opened, Answered, Gone, Called, Heard, Added, Brought, Stopped, Asked, Took, Over, Looked, Back, Reopened, Suspect, Wake, Lent, Number, Kept, Capture, Text}
use Rattle.board_times.specs.declared.lines.Line.{Line}
use Rattle.board_times.specs.declared.events.What.{What}
use Rattle.board_times.specs.declared.events.What.TheVariants.{Begins, IsAway, Opens, Answers, Goes, Calls, Hears, Adds, Brings, Stops, Asks, Takes, Ends, Looks, PutsBack, Reopens, Suspects}
use Rattle.board_times.specs.declared.events.Event.{Event}

-- the text has no byte like this
abbrev pub lacks : ℕ → List ℕ → Bool
lacks c text = list_all (λ d. not (d == c)) text

-- the word that a text is, if it is one
abbrev pub word_read : List ℕ → Option Word
word_read text =
    if bytes_eq text (codes "times") then Some Version
    else (if bytes_eq text (codes "digest") then Some Digest
    else (if bytes_eq text (codes "begin") then Some Begin
    else (if bytes_eq text (codes "away") then Some Away
    else (if bytes_eq text (codes "opened") then Some Opened
    else (if bytes_eq text (codes "answered") then Some Answered
    else (if bytes_eq text (codes "gone") then Some Gone
    else (if bytes_eq text (codes "called") then Some Called
    else (if bytes_eq text (codes "heard") then Some Heard
    else (if bytes_eq text (codes "added") then Some Added
    else (if bytes_eq text (codes "brought") then Some Brought
    else (if bytes_eq text (codes "stopped") then Some Stopped
    else (if bytes_eq text (codes "asked") then Some Asked
    else (if bytes_eq text (codes "took") then Some Took
    else (if bytes_eq text (codes "over") then Some Over
    else (if bytes_eq text (codes "ok") then Some Looked
    else (if bytes_eq text (codes "back") then Some Back
    else (if bytes_eq text (codes "reopened") then Some Reopened
    else (if bytes_eq text (codes "suspect") then Some Suspect
    else (if bytes_eq text (codes "wake") then Some Wake
    else (if bytes_eq text (codes "lent") then Some Lent
    else (if bytes_eq text (codes "number") then Some Number
    else (if bytes_eq text (codes "kept") then Some Kept
    else (if bytes_eq text (codes "capture") then Some Capture
    else (if bytes_eq text (codes "text") then Some Text
    else None))))))))))))))))))))))))

-- what happens with a word and a number, if anything does
abbrev pub what_of : Word → Option ℕ → Option What
what_of Begin (Some n) = Some (Begins n)
what_of Away (Some n) = Some (IsAway n)
what_of Opened None = Some Opens
what_of Answered None = Some Answers
what_of Gone None = Some Goes
what_of Called None = Some Calls
what_of Heard (Some n) = Some (Hears n)
what_of Added (Some n) = Some (Adds n)
what_of Brought (Some n) = Some (Brings n)
what_of Stopped (Some n) = Some (Stops n)
what_of Asked (Some n) = Some (Asks n)
what_of Took None = Some Takes
what_of Over (Some n) = Some (Ends n)
what_of Looked None = Some Looks
what_of Back None = Some PutsBack
what_of Reopened None = Some Reopens
what_of Suspect (Some n) = Some (Suspects n)
what_of _ _ = None

-- the event of a line, if it has one
abbrev pub at_time : ℕ → Option What → Option Event
at_time n None = None
at_time n (Some what) = Some (record { at = n; what = what })

abbrev pub event_of : Line → Option Event
event_of line = at_time line.first (what_of line.tail.word line.tail.number)
