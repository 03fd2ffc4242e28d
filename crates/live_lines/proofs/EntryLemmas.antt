-- Entries and their lines.
use Rattle.std.proofs.Common.{◌≡◌, ℕ, Bool, true, false, List, ◌++◌, Option, Some, None, length, take, drop, refl, sym, ap, ◌∙◌}
use Rattle.std.proofs.Math.Seq.{take-append_seam, drop-append_seam}
use Rattle.std.proofs.lemmas.List.{append_assoc}
use Rattle.board_times.specs.declared.words.Word.{Word}
use Rattle.board_times.specs.declared.words.Word.TheVariants.{Version, Digest, Begin, Away, Opened, Answered, Gone, Called, Heard, Added, Brought, Stopped, Asked, Took, Over, Looked, Back, Reopened, Suspect, Wake, Lent, Number, Kept, Capture, Text}
use Rattle.board_times.specs.declared.lines.Tail.{Tail}
use Rattle.board_times.specs.declared.lines.Line.{Line}
use Rattle.board_times.specs.declared.events.What.{What as Happening}
use Rattle.board_times.specs.declared.events.What.TheVariants.{Begins, IsAway, Opens, Answers, Goes, Calls, Hears, Adds, Brings, Stops, Asks, Takes, Ends, Looks, PutsBack, Reopens, Suspects}
use Rattle.board_times.specs.declared.events.Event.{Event}
use Rattle.board_times.specs.Lines.{Fits, line_text}
use Rattle.board_times.specs.Times.{line_of, tail_of as tail_of_event}
use Rattle.board_times.specs.Inside.Reading.{event_of}
use Rattle.board_times.proofs.EventLemmas.{event_back, event_is}
use Rattle.board_times.proofs.TextLemmas.{line_once}
use Rattle.live_lines.specs.declared.entries.What.{What}
use Rattle.live_lines.specs.declared.entries.What.TheVariants.{Happens, Wakes, Lends, WantsText, Owns, KeepsTimes, KeepsBytes}
use Rattle.live_lines.specs.declared.entries.Entry.{Entry}
use Rattle.live_lines.specs.Entries.{IsWhole, entry_line, entry_text, size_of, tail_of}
use Rattle.live_lines.specs.Inside.Reading.{entry_by, entry_of, own_what}

abbrev tail_with : Word → Option ℕ → Tail
tail_with w n = record { word = w; number = n }

abbrev line_with : ℕ → Tail → Line
line_with n tail = record { first = n; tail = tail }

abbrev entry_with : ℕ → What → Entry
entry_with n what = record { at = n; what = what }

abbrev event_with : ℕ → Happening → Event
event_with n what = record { at = n; what = what }

own_none : (what : Happening) → own_what (tail_of_event what).word (tail_of_event what).number ≡ None
own_none (Begins n) = refl
own_none (IsAway n) = refl
own_none Opens = refl
own_none Answers = refl
own_none Goes = refl
own_none Calls = refl
own_none (Hears n) = refl
own_none (Adds n) = refl
own_none (Brings n) = refl
own_none (Stops n) = refl
own_none (Asks n) = refl
own_none Takes = refl
own_none (Ends n) = refl
own_none Looks = refl
own_none PutsBack = refl
own_none Reopens = refl
own_none (Suspects n) = refl

back_by : (at : ℕ) (what : What) → entry_of (line_with at (tail_of what)) ≡ Some (entry_with at what)
back_by at (Happens what) =
    ap (λ own. entry_by at own (event_of (line_with at (tail_of_event what)))) (own_none what)
    ∙ ap (λ event. entry_by at None event) (event_back (event_with at what))
back_by at Wakes = refl
back_by at Lends = refl
back_by at WantsText = refl
back_by at (Owns n) = refl
back_by at (KeepsTimes n) = refl
back_by at (KeepsBytes n) = refl

pub entry_back : (entry : Entry) → entry_of (entry_line entry) ≡ Some entry
entry_back entry = back_by entry.at entry.what

tail_or : Tail → Option What → Tail
tail_or tail None = tail
tail_or tail (Some what) = tail_of what

own_tail : (w : Word) (n : Option ℕ) → tail_or (tail_with w n) (own_what w n) ≡ tail_with w n
unfolding tail_or
own_tail Version None = refl
own_tail Version (Some n) = refl
own_tail Digest None = refl
own_tail Digest (Some n) = refl
own_tail Begin None = refl
own_tail Begin (Some n) = refl
own_tail Away None = refl
own_tail Away (Some n) = refl
own_tail Opened None = refl
own_tail Opened (Some n) = refl
own_tail Answered None = refl
own_tail Answered (Some n) = refl
own_tail Gone None = refl
own_tail Gone (Some n) = refl
own_tail Called None = refl
own_tail Called (Some n) = refl
own_tail Heard None = refl
own_tail Heard (Some n) = refl
own_tail Added None = refl
own_tail Added (Some n) = refl
own_tail Brought None = refl
own_tail Brought (Some n) = refl
own_tail Stopped None = refl
own_tail Stopped (Some n) = refl
own_tail Asked None = refl
own_tail Asked (Some n) = refl
own_tail Took None = refl
own_tail Took (Some n) = refl
own_tail Over None = refl
own_tail Over (Some n) = refl
own_tail Looked None = refl
own_tail Looked (Some n) = refl
own_tail Back None = refl
own_tail Back (Some n) = refl
own_tail Reopened None = refl
own_tail Reopened (Some n) = refl
own_tail Suspect None = refl
own_tail Suspect (Some n) = refl
own_tail Wake None = refl
own_tail Wake (Some n) = refl
own_tail Lent None = refl
own_tail Lent (Some n) = refl
own_tail Number None = refl
own_tail Number (Some n) = refl
own_tail Kept None = refl
own_tail Kept (Some n) = refl
own_tail Capture None = refl
own_tail Capture (Some n) = refl
own_tail Text None = refl
own_tail Text (Some n) = refl

own_is : (tail : Tail) (what : What) → own_what tail.word tail.number ≡ Some what → tail_of what ≡ tail
unfolding tail_or
own_is tail what e = sym (ap (tail_or tail) e) ∙ own_tail tail.word tail.number

has_entry : Option Entry → Bool
has_entry None = false
has_entry (Some entry) = true

pub no_entry : (entry : Entry) → None ≡ Some entry → ⊥
unfolding has_entry
no_entry entry e = let never : false ≡ true = ap has_entry e in cc

entry_or : Entry → Option Entry → Entry
entry_or entry None = entry
entry_or entry (Some other) = other

entry_eq : (one other : Entry) → Some one ≡ Some other → one ≡ other
unfolding entry_or
entry_eq one other e = ap (entry_or one) e

is_by : (line : Line) (own : Option What) (event : Option Event) (entry : Entry)
    → ((what : What) → own ≡ Some what → tail_of what ≡ line.tail) → ((it : Event) → event ≡ Some it → line ≡ line_of it)
    → entry_by line.first own event ≡ Some entry → line ≡ entry_line entry
is_by line (Some what) event entry f g e =
    ap (line_with line.first) (sym (f what refl)) ∙ ap entry_line (entry_eq (entry_with line.first what) entry e)
is_by line None None entry f g e = absurd (no_entry entry e)
is_by line None (Some event) entry f g e =
    g event refl ∙ ap entry_line (entry_eq (entry_with event.at (Happens event.what)) entry e)

-- A line that has an entry is that entry's.
pub entry_is : (line : Line) (entry : Entry) → entry_of line ≡ Some entry → line ≡ entry_line entry
entry_is line entry e =
    is_by line (own_what line.tail.word line.tail.number) (event_of line) entry (λ what h. own_is line.tail what h)
    (λ event h. event_is line event h) e

pub same_entry : (one other : Entry) → entry_line one ≡ entry_line other → one ≡ other
same_entry one other e = entry_eq one other (sym (entry_back one) ∙ ap entry_of e ∙ entry_back other)

-- Texts of one length that begin a text are the same.
pub same_front : (a b c d : List ℕ) → length a ≡ length c → a ++ b ≡ c ++ d → (a ≡ c) × (b ≡ d)
same_front a b c d n e = (
  sym (take-append_seam a b) ∙ ap (λ k. take k (a ++ b)) n ∙ ap (take (length c)) e ∙ take-append_seam c d,
  sym (drop-append_seam a b) ∙ ap (λ k. drop k (a ++ b)) n ∙ ap (drop (length c)) e ∙ drop-append_seam c d,
)

-- A line that begins the text of an entry, with whatever follows, is its line.
pub its_line : (line : Line) (b : List ℕ) (entry : Entry) (bytes more : List ℕ) → Fits line → IsWhole entry bytes
    → line_text line ++ b ≡ entry_text entry bytes ++ more → (line ≡ entry_line entry) × (b ≡ bytes ++ more)
its_line line b entry bytes more fits whole e =
    line_once line (entry_line entry) b (bytes ++ more) fits whole.0.0 (e ∙ append_assoc (line_text (entry_line entry)) bytes more)

pub told_once : (one other : Entry) (bytes others more rest : List ℕ) → IsWhole one bytes → IsWhole other others
    → entry_text one bytes ++ more ≡ entry_text other others ++ rest → (one ≡ other) × (bytes ≡ others) × (more ≡ rest)
told_once one other bytes others more rest f g e =
    let once = its_line (entry_line one) (bytes ++ more) other others rest f.0.0 g
    (sym (append_assoc (line_text (entry_line one)) bytes more) ∙ e) in
    let same = same_entry one other once.0 in
    let size = f.1 ∙ ap (λ (entry : Entry). size_of entry.what) same ∙ sym g.1 in
    let front = same_front bytes more others rest size once.1 in (same, front.0, front.1)
