-- What raises an alarm, and until when it is open. What was told is listed with the latest first, alarms in the order in which they came.
use Rattle.std.specs.Prelude.{◌≡◌, ◌≢◌, ◌↔◌, ◌+◌, ◌⊎◌, ℕ, true, List, [], ◌∷◌, ◌++◌, Some, ⊤}
use Rattle.board_doubts.specs.declared.heard.Doubt.{Doubt}
use Rattle.board_doubts.specs.declared.heard.Event.{Event}
use Rattle.board_doubts.specs.declared.heard.Heard.TheVariants.{Ends, Looked}
use Rattle.board_doubts.specs.declared.stopped_clock.Tried.{Tried}
use Rattle.board_doubts.specs.Clock.{tries_of}
use Rattle.board_doubts.specs.Doubts.{doubt_of}
use Rattle.board_doubts.specs.Unplayed.{unplayed, unplayed_of}
use Rattle.board_alarms.specs.declared.look.Look.{Look}
use Rattle.board_alarms.specs.declared.look.Look.TheVariants.{Doubtful, Stopped, Unplayed, Suspected}
use Rattle.board_alarms.specs.declared.look.Told.{Told}
use Rattle.board_alarms.specs.declared.look.Told.TheVariants.{Hears, Suspects}
use Rattle.board_alarms.specs.Looks.{alarms, heard, listed, raised, unplayed as unplayed_look}

-- Somebody says that he has looked.
abbrev pub IsLook : Told → Type 0
IsLook (Hears event plies) = event.what ≡ Looked
IsLook (Suspects n) = ⊥

-- The list has this alarm.
abbrev pub Has : Look → List Look → Type 0
Has look [] = ⊥
Has look (one ∷ more) = (one ≡ look) ⊎ Has look more

-- What raises this alarm was told, and nobody has looked since then.
abbrev pub IsRaised : Look → List Told → Type 0
IsRaised look [] = ⊥
IsRaised look (told ∷ past) = Has look (raised told past) ⊎ ((IsLook told → ⊥) × IsRaised look past)

-- An alarm is open exactly then.
abbrev pub IsOpenExactly : Type 0
IsOpenExactly = (look : Look) (past : List Told) → Has look (alarms past) ↔ IsRaised look past

-- Nobody has looked.
abbrev pub NobodyLooks : List Told → Type 0
NobodyLooks [] = ⊤
NobodyLooks (told ∷ past) = (IsLook told → ⊥) × NobodyLooks past

-- Until somebody looks, each alarm stays as it is, whatever comes later.
abbrev pub StaysOpen : Type 0
StaysOpen = (past later : List Told) → NobodyLooks later → (more : List Look) × (alarms (later ++ past) ≡ alarms past ++ more)

-- When somebody has looked, no alarm is open.
abbrev pub LookedEndsAll : Type 0
LookedEndsAll = (told : Told) (past : List Told) → IsLook told → alarms (told ∷ past) ≡ []

-- What an arbiter has added raises no alarm, but for a result.
abbrev pub AddedRaisesNone : Type 0
AddedRaisesNone = (event : Event) (plies : ℕ) (past : List Told) → event.is_added ≡ true → event.what ≢ Ends → raised (Hears event plies) past ≡ []

-- A result that an arbiter gives raises one alarm at most: about the last moves, if nobody may have played them.
abbrev pub ResultAsksForLast : Type 0
ResultAsksForLast = (event : Event) (plies : ℕ) (past : List Told) → event.is_added ≡ true → event.what ≡ Ends
    → raised (Hears event plies) past ≡ listed (unplayed_look plies (unplayed (heard past)))

-- What is suspected is open until somebody looks.
abbrev pub SuspectedStaysOpen : Type 0
SuspectedStaysOpen = (n : ℕ) (past later : List Told) → NobodyLooks later → Has (Suspected n) (alarms (later ++ Suspects n ∷ past))

-- Where the game has so many plies, what is doubtful is named by the last of them. Moves that were made while the clock was stopped, and those
-- that nobody may have played before a result, are named by the last ply before them. (A ply is named by how many the game has with it.)
abbrev pub NamesPlies : Type 0
NamesPlies = (event : Event) (plies before : ℕ) (past : List Told)
    → ((doubt : Doubt) → doubt_of event (heard past) ≡ Some doubt → Has (Doubtful plies doubt) (raised (Hears event plies) past))
    × ((tried : Tried) → tries_of event (heard past) ≡ Some tried → plies ≡ before + tried.plies → Has (Stopped before tried.moves) (raised (Hears event plies) past))
    × ((moves : Tried) → unplayed_of event (heard past) ≡ Some moves → plies ≡ before + moves.plies → Has (Unplayed before moves.moves) (raised (Hears event plies) past))
