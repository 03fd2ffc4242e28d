-- When a board is asked, and for what. Events are listed with the latest first, times are milliseconds.
use Rattle.std.specs.Prelude.{◌≡◌, ◌≢◌, ◌↔◌, ◌<◌, ◌≤◌, ◌+◌, ◌&&◌, ◌||◌, not, ℕ, Bool, true, false, List, ◌∷◌, ◌++◌, Some, None, is_some}
use Rattle.std.specs.List.{list_all}
use Rattle.board_cable.specs.declared.line.Event.{Event}
use Rattle.board_cable.specs.declared.line.Request.TheVariants.{Numbered, Start}
use Rattle.board_cable.specs.declared.line.Happening.{Happening}
use Rattle.board_cable.specs.declared.line.Happening.TheVariants.{Opens, Dumps, Numbers, Asks}
use Rattle.board_cable.specs.Asking.{next_request, request_at}
use Rattle.board_cable.specs.Line.{asked_at, dumped_at, is_open}
use Rattle.board_cable.specs.Still.{answers, asks, asks_for_number, asks_for_updates, begins, count, dumps, last_of, numbers, opens, restarts, serves, shuts, stands, updates, wants}
use Rattle.board_cable.specs.Whose.{own_number}

-- The last request since the line was opened was sent 0.2 s ago or earlier; 1 s, if it is unanswered.
abbrev pub MayAsk : ℕ → List Event → Type 0
MayAsk now past = (last : ℕ) → last_of asks restarts past ≡ Some last → (last + 200 ≤ now) × (stands asks answers past ≡ true → last + 1000 ≤ now)

-- A request is sent only 0.2 s after the last one, or 1 s while that one is unanswered.
abbrev pub RequestsAreApart : Type 0
RequestsAreApart = (now : ℕ) (past : List Event) → request_at now past ≢ None → MayAsk now past

-- The request after one that is unanswered asks for updates too.
abbrev pub OneIsUnanswered : Type 0
OneIsUnanswered = (past : List Event) → stands asks answers past ≡ true → next_request past ≡ Start

-- A board whose last dump is 4 s old is asked at the next wake, whatever it sends, unless it was asked within the last second.
abbrev pub OldDumpsAreAsked : Type 0
OldDumpsAreAsked = (now last dumped : ℕ) (past : List Event) → is_open past ≡ true → asked_at past ≡ Some last → dumped_at past ≡ Some dumped
    → last + 1000 ≤ now → dumped + 4000 ≤ now → request_at now past ≡ Some (next_request past)

-- After a fault a board whose line is open is asked as soon as it may be; so it is when its line is opened, bytes were added by hand
-- or nobody listened; until a dump comes.
abbrev pub FaultsAreAsked : Type 0
FaultsAreAsked = (now : ℕ) (past : List Event) → stands opens shuts past ≡ true → stands wants serves past ≡ true
    → (request_at now past ≡ Some (next_request past)) ↔ MayAsk now past

-- Over a line that has hung up or gone away, or that wasn't opened since the call began, nothing is sent.
abbrev pub ShutLinesAreLeft : Type 0
ShutLinesAreLeft = (now : ℕ) (past : List Event) → stands opens shuts past ≡ false → request_at now past ≡ None

-- Each first request over a line asks for updates too.
abbrev pub FirstAsksForUpdates : Type 0
FirstAsksForUpdates = (opened : ℕ) (since past : List Event) → list_all (λ event. not (asks event.what || restarts event.what)) since ≡ true
    → next_request (since ++ record { at = opened; what = Opens } ∷ past) ≡ Start

-- No dump comes, no line is opened and no call begins.
abbrev pub is_between : Happening → Bool
is_between what = not (dumps what || restarts what)

-- If a dump shows something else than the one before it, and no update came between them, the next request asks for updates too. If
-- the board was asked between them, that is the only reason.
abbrev pub LostUpdatesAreAsked : Type 0
LostUpdatesAreAsked = (at before : ℕ) (picture other : List ℕ) (since between past : List Event)
    → list_all (λ event. is_between event.what) between ≡ true → list_all (λ event. is_between event.what && not (asks event.what)) since ≡ true
    → let all : List Event = since ++ record { at = at; what = Dumps picture } ∷ (between ++ record { at = before; what = Dumps other } ∷ past) in
    let IsLost : Type 0 = (picture ≢ other) × (list_all (λ event. not (updates event.what)) between ≡ true) in
    (IsLost → next_request all ≡ Start) × (list_all (λ event. not (asks event.what)) between ≡ false → next_request all ≡ Start → IsLost)

-- No request asks for updates, no number comes and no call begins.
abbrev pub is_numberless : Happening → Bool
is_numberless what = not (asks_for_updates what || (numbers what || begins what))

-- If the game has a number, just the next two requests after one for updates ask for the board's number too.
abbrev pub NumberIsAskedTwice : Type 0
NumberIsAskedTwice = (at : ℕ) (since past : List Event) → list_all (λ event. is_numberless event.what) since ≡ true
    → let all : List Event = since ++ record { at = at; what = Asks Start } ∷ past in next_request all ≢ Start
    → (next_request all ≡ Numbered) ↔ ((is_some (own_number past) ≡ true) × (count asks_for_number asks_for_updates all < 2))

-- Once a number has come it isn't asked for, until updates are asked for again.
abbrev pub KnownNumberIsNotAsked : Type 0
KnownNumberIsNotAsked = (at : ℕ) (number : List ℕ) (since past : List Event) → list_all (λ event. not (asks_for_updates event.what)) since ≡ true
    → next_request (since ++ record { at = at; what = Numbers number } ∷ past) ≢ Numbered
