-- Whose board it is, and how long its bytes are held. Events are listed with the latest first, times are milliseconds.
use Rattle.std.specs.Prelude.{◌≡◌, ◌≢◌, ◌⊎◌, ◌↔◌, ◌<◌, ◌≤◌, ◌+◌, ◌||◌, nat_le, not, ℕ, Bool, true, false, List, [], ◌∷◌, ◌++◌, Some, None}
use Rattle.std.specs.List.{list_all}
use Rattle.board_cable.specs.declared.line.Event.{Event}
use Rattle.board_cable.specs.declared.line.Happening.{Happening}
use Rattle.board_cable.specs.declared.line.Request.TheVariants.{Start}
use Rattle.board_cable.specs.declared.line.Happening.TheVariants.{Begins, Opens, Answers, Dumps, Numbers, Owns, Asks}
use Rattle.board_cable.specs.declared.whose.Handling.TheVariants.{Hold, Other}
use Rattle.board_cable.specs.Still.{begins, count, dumps}
use Rattle.board_cable.specs.Whose.{handling_at, is_own, own_number, sends_own, shown_number}

-- Nothing from which a number is awaited anew, and no number.
abbrev pub awaits_still : Happening → Bool
awaits_still Begins = false
awaits_still Opens = false
awaits_still Answers = false
awaits_still (Numbers number) = false
awaits_still _ = true

-- how many dumps came
abbrev pub dumps_and : Happening → ℕ → ℕ
dumps_and (Dumps picture) others = others + 1
dumps_and _ others = others

abbrev pub dumps_in : List Event → ℕ
dumps_in [] = 0
dumps_in (event ∷ events) = dumps_and event.what (dumps_in events)

-- It is said which number the game's board has.
abbrev pub says_number : Happening → Bool
says_number (Owns number) = true
says_number _ = false

-- If the game's number is known, what comes after the line was opened is held exactly until a number has come, for 5 s or three dumps.
abbrev pub HeldUntilNumbered : Type 0
HeldUntilNumbered = (now opened : ℕ) (own : List ℕ) (since past : List Event) → own_number past ≡ Some own
    → list_all (λ event. awaits_still event.what) since ≡ true
    → (handling_at now (since ++ record { at = opened; what = Opens } ∷ past) ≡ Hold) ↔ ((dumps_in since < 3) × (now < opened + 5000))

-- From here on a number is awaited: the line is opened, a board behind a serial server answers, or updates are asked for.
abbrev pub awaits : Happening → Bool
awaits Opens = true
awaits Answers = true
awaits (Asks Start) = true
awaits _ = false

-- The last that awaits a number was 5 s ago or earlier, or three dumps have come since then: nothing is held.
abbrev pub NothingIsHeldLonger : Type 0
NothingIsHeldLonger = (now : ℕ) (past : List Event)
    → (list_all (λ event. not (awaits event.what) || nat_le (event.at + 5000) now) past ≡ true) ⊎ (3 ≤ count dumps (λ what. awaits what || begins what) past)
    → handling_at now past ≢ Hold

-- The first number that comes is the game's, until another one is said to be.
abbrev pub FirstNumberIsOwn : Type 0
FirstNumberIsOwn = (at : ℕ) (number : List ℕ) (since past : List Event) → own_number past ≡ None → list_all (λ event. not (says_number event.what)) since ≡ true
    → own_number (since ++ record { at = at; what = Numbers number } ∷ past) ≡ Some number

-- Nothing is kept of a board whose number isn't the game's.
abbrev pub OtherNumbersAreNotKept : Type 0
OtherNumbersAreNotKept = (now : ℕ) (own shown : List ℕ) (past : List Event) → own_number past ≡ Some own → shown_number past ≡ Some shown
    → shown ≢ own → (handling_at now past ≡ Hold) ⊎ (handling_at now past ≡ Other shown)

-- No line is opened and no call begins, and nobody says which number the game's board has.
abbrev pub knows_still : Happening → Bool
knows_still Begins = false
knows_still Opens = false
knows_still (Owns number) = false
knows_still _ = true

-- Until then a board counts as the game's own exactly if it has sent the number that was known when the line was opened.
abbrev pub OwnSendsKnownNumber : Type 0
OwnSendsKnownNumber = (opened : ℕ) (since past : List Event) → list_all (λ event. knows_still event.what) since ≡ true
    → let now : List Event = since ++ record { at = opened; what = Opens } ∷ past in is_own now ≡ sends_own (shown_number now) (own_number past)
