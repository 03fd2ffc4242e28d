-- What holds of each history at a cable. Lists have the latest first, except bytes.
use Rattle.std.specs.Prelude.{◌≡◌, ◌⊎◌, ℕ, not, Bool, true, false, List, [], ◌∷◌, ◌++◌, ◌<◌, ◌≤◌, ◌^◌, Option, Some, None, ⊤}
use Rattle.std.specs.List.{list_all}
use Rattle.board_cable.specs.declared.whose.Handling.TheVariants.{Hold, Keep, Other}
use Rattle.board_cable.specs.Lasting.{IsBefore}
use Rattle.board_cable.specs.Pace.{AsksAlike}
use Rattle.board_cable.specs.Whose.{HandledAlike, own_number, shown_number}
use Rattle.board_cable.specs.declared.happened.What.{What}
use Rattle.board_cable.specs.declared.happened.What.TheVariants.{Begins, Opens, Takes, Owns, Wakes}
use Rattle.board_cable.specs.Keeping.{kept}
use Rattle.board_cable.specs.Moments.{Moment, sent}
use Rattle.board_cable.specs.Turns.{Told, Turn, handling_of, request_of, told}

-- One history has one list of turns.
abbrev pub IsToldOnce : Type 0
IsToldOnce = (past : List Moment) (turns others : List Turn) → Told past turns → Told past others → turns ≡ others

-- The line is opened.
abbrev pub opens : What → Bool
opens Opens = true
opens _ = false

-- History asks nothing: in a call that hasn't opened the line the board is sent nothing, whatever happened before.
abbrev pub HistoryAsksNothing : Type 0
HistoryAsksNothing = (call past : List Moment) (begins : Moment) (turn : Turn) (turns : List Turn) → begins.what ≡ Begins
    → list_all (λ one. not (opens one.what)) call ≡ true → Told (call ++ begins ∷ past) (turn ∷ turns) → request_of turn ≡ None

-- all that the board has sent in these turns
abbrev pub all_sent : List Turn → List ℕ
all_sent [] = []
all_sent (turn ∷ turns) = all_sent turns ++ sent turn.moment

-- all that the game has got in these turns, which came after those before
abbrev pub all_kept : List Turn → List Turn → List ℕ
all_kept [] before = []
all_kept (turn ∷ turns) before = all_kept turns before ++ kept (turn ∷ turns ++ before)

-- These are some of the others, in their order.
abbrev pub AreSomeOf : List ℕ → List ℕ → Type 0
AreSomeOf [] others = ⊤
AreSomeOf (byte ∷ bytes) [] = ⊥
AreSomeOf (byte ∷ bytes) (other ∷ others) = ((byte ≡ other) × AreSomeOf bytes others) ⊎ AreSomeOf (byte ∷ bytes) others

-- Each byte that the game gets was sent, and none comes twice or before one that was sent earlier.
abbrev pub IsKeptInOrder : Type 0
IsKeptInOrder = (turns : List Turn) → AreSomeOf (all_kept turns []) (all_sent turns)

-- A game whose board's number isn't known gets what is sent, as it comes.
abbrev pub IsKeptWithoutNumber : Type 0
IsKeptWithoutNumber = (past : List Moment) (turn : Turn) (turns : List Turn) → Told past (turn ∷ turns) → own_number turn.now ≡ None
    → kept (turn ∷ turns) ≡ sent turn.moment

-- The game's board may be another one from here on.
abbrev pub owns : What → Bool
owns Takes = true
owns (Owns number) = true
owns _ = false

-- Once the board on the cable is known to be another one, the game gets nothing of what was sent until then, unless the arbiter
-- takes that board: it gets only of what has been sent since.
abbrev pub OthersAreNotKept : Type 0
OthersAreNotKept = (past : List Moment) (turn : Turn) (since before : List Turn) (number : List ℕ) → Told past (since ++ turn ∷ before)
    → handling_of turn ≡ Other number → list_all (λ (one : Turn). not (owns one.moment.what)) since ≡ true
    → AreSomeOf (all_kept since (turn ∷ before)) (all_sent since)

-- Who wakes before the time that `due` has named, with nothing between, asks nothing, and the game gets nothing.
abbrev pub EarlyWakesChangeNothing : Type 0
EarlyWakesChangeNothing = (past : List Moment) (wake turn : Turn) (turns : List Turn) (due : Option ℕ) → Told past (wake ∷ turn ∷ turns)
    → wake.moment.what ≡ Wakes → wake.moment.at < 2 ^ 64 → turn.moment.at ≤ wake.moment.at → IsBefore wake.moment.at due
    → AsksAlike turn.moment.at (told (turn ∷ turns)) due → HandledAlike turn.moment.at (told (turn ∷ turns)) due
    → (request_of wake ≡ None) × (kept (wake ∷ turn ∷ turns) ≡ [])

-- If the arbiter takes the board on the cable, the number that it has shown is the game's, and what it sends is no other board's. If it
-- has shown none, nothing changes.
abbrev pub TakenBoardIsOwn : Type 0
TakenBoardIsOwn = (past : List Moment) (turn : Turn) (turns : List Turn) → Told past (turn ∷ turns) → turn.moment.what ≡ Takes
    → ((number : List ℕ) → shown_number (told turns) ≡ Some number → (own_number turn.now ≡ Some number) × ((handling_of turn ≡ Keep) ⊎ (handling_of turn ≡ Hold)))
    × (shown_number (told turns) ≡ None → turn.now ≡ told turns)
