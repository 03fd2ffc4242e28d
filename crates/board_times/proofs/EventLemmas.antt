-- Events and their lines.
use Rattle.std.proofs.Common.{◌≡◌, ℕ, Bool, true, false, List, [], ◌∷◌, ◌++◌, Option, Some, None, refl, sym, ap, ◌∙◌}
use Rattle.std.proofs.lemmas.List.{append_assoc, append-nil}
use Rattle.board_times.specs.declared.words.Word.{Word}
use Rattle.board_times.specs.declared.words.Word.TheVariants.{Version, Digest, Begin, Away, Opened, Answered, Gone, Called, Heard, Added, Brought, Stopped, Asked, Took, Over, Looked, Back, Reopened, Suspect, Wake, Lent, Number, Kept, Capture, Text}
use Rattle.board_times.specs.declared.lines.Tail.{Tail}
use Rattle.board_times.specs.declared.lines.Line.{Line}
use Rattle.board_times.specs.declared.events.What.{What}
use Rattle.board_times.specs.declared.events.What.TheVariants.{Begins, IsAway, Opens, Answers, Goes, Calls, Hears, Adds, Brings, Stops, Asks, Takes, Ends, Looks, PutsBack, Reopens, Suspects}
use Rattle.board_times.specs.declared.events.Event.{Event}
use Rattle.board_times.specs.Lines.{Fits, line_text}
use Rattle.board_times.specs.Times.{AllFit, BeginsNoEvent, line_of, lines_of, tail_of}
use Rattle.board_times.proofs.TextLemmas.{line_once}
use Rattle.board_times.specs.Inside.Reading.{at_time, event_of, what_of}

what_back : (what : What) → what_of (tail_of what).word (tail_of what).number ≡ Some what
what_back (Begins n) = refl
what_back (IsAway n) = refl
what_back Opens = refl
what_back Answers = refl
what_back Goes = refl
what_back Calls = refl
what_back (Hears n) = refl
what_back (Adds n) = refl
what_back (Brings n) = refl
what_back (Stops n) = refl
what_back (Asks n) = refl
what_back Takes = refl
what_back (Ends n) = refl
what_back Looks = refl
what_back PutsBack = refl
what_back Reopens = refl
what_back (Suspects n) = refl

pub event_back : (event : Event) → event_of (line_of event) ≡ Some event
event_back event = ap (at_time event.at) (what_back event.what)

tail_or : Tail → Option What → Tail
tail_or tail None = tail
tail_or tail (Some what) = tail_of what

abbrev tail_with : Word → Option ℕ → Tail
tail_with w n = record { word = w; number = n }

abbrev line_with : ℕ → Tail → Line
line_with n tail = record { first = n; tail = tail }

tail_is : (w : Word) (n : Option ℕ) → tail_or (tail_with w n) (what_of w n) ≡ tail_with w n
unfolding tail_or
tail_is Version None = refl
tail_is Version (Some n) = refl
tail_is Digest None = refl
tail_is Digest (Some n) = refl
tail_is Begin None = refl
tail_is Begin (Some n) = refl
tail_is Away None = refl
tail_is Away (Some n) = refl
tail_is Opened None = refl
tail_is Opened (Some n) = refl
tail_is Answered None = refl
tail_is Answered (Some n) = refl
tail_is Gone None = refl
tail_is Gone (Some n) = refl
tail_is Called None = refl
tail_is Called (Some n) = refl
tail_is Heard None = refl
tail_is Heard (Some n) = refl
tail_is Added None = refl
tail_is Added (Some n) = refl
tail_is Brought None = refl
tail_is Brought (Some n) = refl
tail_is Stopped None = refl
tail_is Stopped (Some n) = refl
tail_is Asked None = refl
tail_is Asked (Some n) = refl
tail_is Took None = refl
tail_is Took (Some n) = refl
tail_is Over None = refl
tail_is Over (Some n) = refl
tail_is Looked None = refl
tail_is Looked (Some n) = refl
tail_is Back None = refl
tail_is Back (Some n) = refl
tail_is Reopened None = refl
tail_is Reopened (Some n) = refl
tail_is Suspect None = refl
tail_is Suspect (Some n) = refl
tail_is Wake None = refl
tail_is Wake (Some n) = refl
tail_is Lent None = refl
tail_is Lent (Some n) = refl
tail_is Number None = refl
tail_is Number (Some n) = refl
tail_is Kept None = refl
tail_is Kept (Some n) = refl
tail_is Capture None = refl
tail_is Capture (Some n) = refl
tail_is Text None = refl
tail_is Text (Some n) = refl

line_or : Line → Option Event → Line
line_or line None = line
line_or line (Some event) = line_of event

line_or_at : (n : ℕ) (tail : Tail) (what : Option What) → line_or (line_with n tail) (at_time n what) ≡ line_with n (tail_or tail what)
unfolding line_or tail_or
line_or_at n tail None = refl
line_or_at n tail (Some what) = refl

-- A line that has an event is that event's.
pub event_is : (line : Line) (event : Event) → event_of line ≡ Some event → line ≡ line_of event
unfolding line_or
event_is line event e =
    sym (ap (line_with line.first) (tail_is line.tail.word line.tail.number))
    ∙ sym (line_or_at line.first line.tail (what_of line.tail.word line.tail.number))
    ∙ ap (line_or line) e

some_event : Option Event → Bool
some_event None = false
some_event (Some event) = true

-- A text that begins with a line of no event begins with no event's line.
pub no_event : (line : Line) (rest : List ℕ) (event : Event) (more : List ℕ) → Fits line → event_of line ≡ None → Fits (line_of event)
    → line_text line ++ rest ≡ line_text (line_of event) ++ more → ⊥
unfolding some_event
no_event line rest event more fits none fits-event e =
    let same = line_once line (line_of event) rest more fits fits-event e in
    let never : false ≡ true = ap some_event (sym none ∙ ap event_of same.0 ∙ event_back event) in cc

pub lines_snoc : (events : List Event) (event : Event) → lines_of (events ++ event ∷ []) ≡ lines_of events ++ line_text (line_of event)
lines_snoc [] event = append-nil (line_text (line_of event))
lines_snoc (first ∷ events) event =
    ap (λ text. line_text (line_of first) ++ text) (lines_snoc events event)
    ∙ sym (append_assoc (line_text (line_of first)) (lines_of events) (line_text (line_of event)))

pub fit_snoc : (events : List Event) (event : Event) → AllFit events → Fits (line_of event) → AllFit (events ++ event ∷ [])
fit_snoc [] event all fits = (fits, tt)
fit_snoc (first ∷ events) event all fits = (all.0, fit_snoc events event all.1 fits)

event_or : Event → Option Event → Event
event_or event None = event
event_or event (Some other) = other

event_eq : (one other : Event) → Some one ≡ Some other → one ≡ other
unfolding event_or
event_eq one other e = ap (event_or one) e

pub same_event : (one other : Event) → line_of one ≡ line_of other → one ≡ other
same_event one other e = event_eq one other (sym (event_back one) ∙ ap event_of e ∙ event_back other)

-- Texts are read in one way.
pub read_once : (one other : List Event) (a b : List ℕ) → AllFit one → AllFit other → BeginsNoEvent a → BeginsNoEvent b
    → lines_of one ++ a ≡ lines_of other ++ b → (one ≡ other) × (a ≡ b)
read_once [] [] a b f g n m e = (refl, e)
read_once [] (y ∷ ys) a b f g n m e =
    absurd (n y (lines_of ys ++ b) g.0 (e ∙ append_assoc (line_text (line_of y)) (lines_of ys) b))
read_once (x ∷ xs) [] a b f g n m e =
    absurd (m x (lines_of xs ++ a) f.0 (sym e ∙ append_assoc (line_text (line_of x)) (lines_of xs) a))
read_once (x ∷ xs) (y ∷ ys) a b f g n m e =
    let once = line_once (line_of x) (line_of y) (lines_of xs ++ a) (lines_of ys ++ b) f.0 g.0
    (sym (append_assoc (line_text (line_of x)) (lines_of xs) a) ∙ e ∙ append_assoc (line_text (line_of y)) (lines_of ys) b) in
    let more = read_once xs ys a b f.1 g.1 n m once.1 in (
      ap (λ event. event ∷ xs) (same_event x y once.0) ∙ ap (λ events. y ∷ events) more.0,
      more.1,
    )

-- The lines of a text's first bytes are the first of its lines.
pub first_read : (one all : List Event) (a b : List ℕ) → AllFit one → AllFit all → BeginsNoEvent b
    → lines_of one ++ a ≡ lines_of all ++ b → (others : List Event) × (all ≡ one ++ others)
first_read [] all a b f g m e = (all, refl)
first_read (x ∷ xs) [] a b f g m e =
    absurd (m x (lines_of xs ++ a) f.0 (sym e ∙ append_assoc (line_text (line_of x)) (lines_of xs) a))
first_read (x ∷ xs) (y ∷ ys) a b f g m e =
    let once = line_once (line_of x) (line_of y) (lines_of xs ++ a) (lines_of ys ++ b) f.0 g.0
    (sym (append_assoc (line_text (line_of x)) (lines_of xs) a) ∙ e ∙ append_assoc (line_text (line_of y)) (lines_of ys) b) in
    let more = first_read xs ys a b f.1 g.1 m once.1 in (
      more.0,
      ap (λ event. event ∷ ys) (sym (same_event x y once.0)) ∙ ap (λ events. x ∷ events) more.1,
    )
