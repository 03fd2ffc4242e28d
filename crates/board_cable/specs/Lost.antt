-- What a cable drops, and why. Turns are listed with the latest first.
use Rattle.std.specs.Prelude.{◌≡◌, ◌+◌, ◌≤◌, ◌&&◌, ◌||◌, not, ℕ, nat_lt, Bool, true, false, if◌then◌else◌, List, [], ◌∷◌, ◌++◌, length, Option, Some}
use Rattle.std.specs.List.{list_all}
use Rattle.std.specs.Str.{bytes_eq}
use Rattle.board_cable.specs.declared.whose.Handling.{Handling}
use Rattle.board_cable.specs.declared.whose.Handling.TheVariants.{Keep, Hold, Other}
use Rattle.board_cable.specs.Whose.{own_number}
use Rattle.board_cable.specs.declared.happened.What.{What}
use Rattle.board_cable.specs.declared.happened.What.TheVariants.{Begins, Opens, Closes, HangsUp, Lends}
use Rattle.board_cable.specs.Keeping.{are_same, aside, held, kept, owner}
use Rattle.board_cable.specs.Laws.{all_kept, all_sent}
use Rattle.board_cable.specs.Moments.{sent}
use Rattle.board_cable.specs.Turns.{Turn, handling_of}

-- The line is opened, or goes, or a call begins: what is held is dropped.
abbrev pub is_cut : What → Bool
is_cut Begins = true
is_cut Opens = true
is_cut Closes = true
is_cut HangsUp = true
is_cut _ = false

-- Another game has what is kept aside, or a call begins.
abbrev pub is_lent : What → Bool
is_lent Begins = true
is_lent Lends = true
is_lent _ = false

abbrev pub lends : What → Bool
lends Lends = true
lends _ = false

abbrev pub begins : What → Bool
begins Begins = true
begins _ = false

-- what another game has got of what was kept aside in these turns
abbrev pub lent_now : Turn → List Turn → List ℕ
lent_now turn turns = if lends turn.moment.what then aside turns else []

abbrev pub all_lent : List Turn → List ℕ
all_lent [] = []
all_lent (turn ∷ turns) = all_lent turns ++ lent_now turn turns

-- More than 1,048,576 bytes are no more kept back: all of them are dropped.
abbrev pub too_many : ℕ → ℕ
too_many n = if nat_lt 1048576 n then n else 0

-- How many bytes are dropped at a turn, if so many were aside and held, and so many were sent: those of a board that isn't the one
-- that shows itself now, and those that are too many.
abbrev pub dropped_by : Handling → Option (List ℕ) → Option (List ℕ) → ℕ → ℕ → ℕ → ℕ
dropped_by Keep own owner aside held sent = if are_same owner own then 0 else aside
dropped_by Hold own owner aside held sent = too_many (held + sent)
dropped_by (Other number) own owner aside held sent =
    if are_same owner (Some number) then too_many (aside + (held + sent)) else (aside + too_many (held + sent))

abbrev pub dropped_now : Turn → List Turn → ℕ
dropped_now turn turns = (if is_cut turn.moment.what then length (held turns) else 0) + (if begins turn.moment.what then length (aside turns) else 0)
    + dropped_by (handling_of turn) (own_number turn.now) (owner turns) (if is_lent turn.moment.what then 0 else length (aside turns))
    (if is_cut turn.moment.what then 0 else length (held turns)) (length (sent turn.moment))

abbrev pub dropped : List Turn → ℕ
dropped [] = 0
dropped (turn ∷ turns) = dropped turns + dropped_now turn turns

-- No byte is lost, and none comes to two games: what the game has got, what another game has got, what is kept aside, what is held and
-- what was dropped for such a reason are as many bytes as were sent.
abbrev pub NoByteIsLost : Type 0
NoByteIsLost = (turns : List Turn)
    → length (all_kept turns []) + length (all_lent turns) + length (aside turns) + length (held turns) + dropped turns ≡ length (all_sent turns)

abbrev pub holds : Handling → Bool
holds Hold = true
holds _ = false

-- At this turn what is sent is held, and what was held before stays.
abbrev pub holds_on : Turn → Bool
holds_on turn = if is_cut turn.moment.what then false else holds (handling_of turn)

-- What was held comes whole: all that was sent while it wasn't known whose board it is comes to the game, in its order and as the last
-- that it gets, once the game's board has shown itself, unless it is more than 1,048,576 bytes.
abbrev pub HeldComesWhole : Type 0
HeldComesWhole = (turn : Turn) (since before : List Turn) → held before ≡ [] → list_all holds_on since ≡ true → is_cut turn.moment.what ≡ false
    → handling_of turn ≡ Keep → length (all_sent since) ≤ 1048576
    → (front : List ℕ) × (kept (turn ∷ since ++ before) ≡ front ++ all_sent (turn ∷ since))

-- What is sent at this turn is kept back: it is held, or it is known that the board with this number sends it. And nothing is dropped or
-- lent.
abbrev pub kept_back_by : List ℕ → Handling → Bool
kept_back_by number Keep = false
kept_back_by number Hold = true
kept_back_by number (Other other) = bytes_eq other number

abbrev pub is_kept_back : List ℕ → Turn → Bool
is_kept_back number turn = kept_back_by number (handling_of turn) && not (is_cut turn.moment.what || is_lent turn.moment.what)

-- What was aside comes whole: once the game has the number of a board, all that it has sent while that was kept back comes to the game,
-- in its order, unless it is more than 1,048,576 bytes.
abbrev pub AsideComesWhole : Type 0
AsideComesWhole = (number : List ℕ) (turn : Turn) (since before : List Turn) → aside before ≡ [] → held before ≡ [] → list_all (is_kept_back number) since ≡ true
    → (is_cut turn.moment.what || is_lent turn.moment.what) ≡ false → handling_of turn ≡ Keep → own_number turn.now ≡ Some number
    → length (all_sent since) ≤ 1048576 → kept (turn ∷ since ++ before) ≡ all_sent (turn ∷ since)
