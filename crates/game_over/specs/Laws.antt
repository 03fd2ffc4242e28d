-- What holds of each history. Events are listed with the latest first, times are milliseconds.
use Rattle.std.specs.Prelude.{◌≡◌, ◌+◌, ◌-◌, ◌≤◌, ◌⊎◌, ◌&&◌, ◌||◌, not, ℕ, Bool, true, false, List, [], ◌∷◌, ◌++◌, Some, None, is_some, slice_get, ⊤}
use Rattle.game_over.specs.declared.happened.Event.{Event}
use Rattle.game_over.specs.declared.happened.Happening.{Happening}
use Rattle.game_over.specs.declared.happened.Happening.TheVariants.{Moves, Differs, Ends, Declares, Passes, Reopens}
use Rattle.game_over.specs.declared.happened.Move.{Move}
use Rattle.game_over.specs.declared.made.Made.{Made}
use Rattle.game_over.specs.declared.moves.Place.{Place}
use Rattle.game_over.specs.declared.result.Given.{Given}
use Rattle.game_over.specs.declared.said.Over.{Over}
use Rattle.game_over.specs.declared.said.Said.{Said}
use Rattle.game_over.specs.declared.said.Said.TheVariants.{IsOver, GoesOn}
use Rattle.game_over.specs.declared.said.Why.TheVariants.{Stood}
use Rattle.game_over.specs.Moves.{moves, places}
use Rattle.game_over.specs.Over.{ended_by, front, has_result, is_over, passes, reopens}
use Rattle.game_over.specs.Result.{last_given}
use Rattle.game_over.specs.Said.{IsSaid}
use Rattle.game_over.specs.Unfinished.{IsEnd, LosesTail}

-- One thing is said to an event.
abbrev pub SaidInOneWay : Type 0
SaidInOneWay = (said other : Said) (event : Event) (past : List Event) → IsSaid said event past → IsSaid other event past → said ≡ other

-- A game without a result ends in one way.
abbrev pub EndsInOneWay : Type 0
EndsInOneWay = (kept other : ℕ) (is_sure is_also_sure : Bool) (moves : List Made) → IsEnd kept is_sure moves → IsEnd other is_also_sure moves
    → (kept ≡ other) × (is_sure ≡ is_also_sure)

-- A game is over exactly if an event has ended it, and it wasn't reopened since.
abbrev pub IsOverExactly : Type 0
IsOverExactly = (event : Event) (past : List Event)
    → is_over (event ∷ past) ≡ (not (reopens event.what) && (is_over past || is_some (ended_by event past)))

-- Nobody has reopened the game.
abbrev pub NobodyReopens : List Event → Type 0
NobodyReopens [] = ⊤
NobodyReopens (event ∷ past) = (reopens event.what ≡ false) × NobodyReopens past

-- A game that has ended ends no second time, until it is reopened.
abbrev pub EndsOnce : Type 0
EndsOnce = (event one : Event) (past later : List Event) → is_some (ended_by event past) ≡ true → NobodyReopens later
    → ended_by one (later ++ event ∷ past) ≡ None

-- Where a game ends since its result has stood, that was given ten seconds ago or longer, and nothing has taken it back.
abbrev pub StandsTenSeconds : Type 0
StandsTenSeconds = (event : Event) (past : List Event) → ended_by event past ≡ Some Stood
    → (given : Given) × (last_given past ≡ Some given) × (given.at + 10000 ≤ event.at)

-- What time alone ends, nobody saw standing: that is sure exactly if an arbiter gave the result.
abbrev pub UnseenIsUnsure : Type 0
UnseenIsUnsure = (over : Over) (given : Given) (event : Event) (past : List Event) → IsSaid (IsOver over) event past → event.what ≡ Passes
    → last_given past ≡ Some given → over.is_sure ≡ given.is_added

-- Once a time was told, up to it no time ends the game any more.
abbrev pub PassesOnce : Type 0
PassesOnce = (earlier now bytes later : ℕ) (past : List Event) → earlier ≤ now → ended_by (passes earlier bytes) (passes now later ∷ past) ≡ None

-- After this an earlier result ends nothing: an arbiter has taken it off, or there is another move or a correction.
abbrev pub takes_back : Happening → Bool
takes_back (Moves move) = true
takes_back Reopens = true
takes_back other = false

abbrev pub gives : Happening → Bool
gives (Ends outcome added) = true
gives (Declares outcome added) = true
gives other = false

-- No result is given.
abbrev pub NoneIsGiven : List Event → Type 0
NoneIsGiven [] = ⊤
NoneIsGiven (event ∷ past) = (gives event.what ≡ false) × NoneIsGiven past

-- A result that was taken back ends nothing: until another one is given, the game ends only without one.
abbrev pub TakenBackEndsNothing : Type 0
TakenBackEndsNothing = (back one : Event) (past later : List Event) → takes_back back.what ≡ true → NoneIsGiven later
    → has_result (ended_by one (later ++ back ∷ past)) ≡ false

-- A game ends nowhere before the bytes that were written when it went back.
abbrev pub EndsBehindFront : Type 0
EndsBehindFront = (over : Over) (event : Event) (past : List Event) → IsSaid (IsOver over) event past → front past ≤ over.bytes

-- A move that an arbiter adds ends no game.
abbrev pub AddedEndsNothing : Type 0
AddedEndsNothing = (move : Move) (at bytes : ℕ) (past : List Event) → move.is_added ≡ true
    → ended_by (record { at = at; bytes = bytes; what = Moves move }) past ≡ None

-- A game is said to go on only if it was over before, and two moves were made since.
abbrev pub GoesOnAfterEnd : Type 0
GoesOnAfterEnd = (count : ℕ) (event : Event) (past : List Event) → IsSaid (GoesOn count) event past → (is_over past ≡ true) × (2 ≤ count)

-- A game that ends with a result has it, and ends behind it.
abbrev pub EndsWithResult : Type 0
EndsWithResult = (over : Over) (event : Event) (past : List Event) → IsSaid (IsOver over) event past → has_result (Some over.why) ≡ true
    → (given : Given) × (last_given past ≡ Some given) × (over.result ≡ Some given.outcome) × (given.bytes ≤ over.bytes)

-- Of a game that ends without one only a tail of its moves goes: none that stood for three seconds, and none that was added.
abbrev pub OnlySetUpGoes : Type 0
OnlySetUpGoes = (over : Over) (event : Event) (past : List Event) → IsSaid (IsOver over) event past → has_result (Some over.why) ≡ false
    → (kept : ℕ) × LosesTail kept (moves past) × ((place : Place) → slice_get (places past) (kept - 1) ≡ Some place → place.bytes ≤ over.bytes)

-- Nothing comes before these bytes.
abbrev pub IsBehind : ℕ → List Event → Type 0
IsBehind bytes [] = ⊤
IsBehind bytes (event ∷ past) = (bytes ≤ event.bytes) × IsBehind bytes past

-- The board shows something else, or another move was made.
abbrev pub changes : Happening → Bool
changes (Moves move) = true
changes Differs = true
changes other = false

-- Until then nothing changes; or the move was added, and it doesn't matter.
abbrev pub IsUnchanged : Bool → ℕ → List Event → Type 0
IsUnchanged added until [] = ⊤
IsUnchanged added until (event ∷ past) = (changes event.what ≡ true → (added ≡ true) ⊎ (until ≤ event.at)) × IsUnchanged added until past

-- A move that stood for three seconds, or was added, is the game's, whatever ends it later.
abbrev pub MovesStay : Type 0
MovesStay = (move : Move) (at bytes : ℕ) (past later : List Event) (event : Event) (over : Over) → IsBehind bytes later
    → IsUnchanged move.is_added (at + 3000) later
    → IsSaid (IsOver over) event (later ++ record { at = at; bytes = bytes; what = Moves move } ∷ past) → bytes ≤ over.bytes
