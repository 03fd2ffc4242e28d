-- When a result ends the game. Events are listed with the latest first, times are milliseconds.
use Rattle.std.specs.Prelude.{◌≡◌, ◌+◌, ◌≤◌, ◌<◌, ◌⊎◌, ℕ, Bool, true, false, List, ◌∷◌, ◌++◌, Some, None, if◌then◌else◌}
use Rattle.std.specs.List.{list_all}
use Rattle.game_over.specs.declared.happened.Event.{Event}
use Rattle.game_over.specs.declared.happened.Happening.{Happening}
use Rattle.game_over.specs.declared.happened.Happening.TheVariants.{Moves, Ends, Declares, Reopens, Resumes, Passes, Hears}
use Rattle.game_over.specs.declared.happened.Move.{Move}
use Rattle.game_over.specs.declared.happened.Outcome.{Outcome}
use Rattle.game_over.specs.declared.said.Why.TheVariants.{PlaysOn, Corrected, Stood}
use Rattle.game_over.specs.Over.{ended_by, is_over}

-- The result is given, by the position, the kings or an arbiter.
abbrev pub GivesIt : Bool → Happening → Type 0
GivesIt added what = (outcome : Outcome) × ((what ≡ Ends outcome added) ⊎ (what ≡ Declares outcome added))

-- With this a result stands on: no move is made or corrected, none is given or taken off, and somebody listened.
abbrev pub leaves_what : Happening → Bool
leaves_what (Moves move) = false
leaves_what (Ends outcome added) = false
leaves_what (Declares outcome added) = false
leaves_what Reopens = false
leaves_what Resumes = false
leaves_what other = true

abbrev pub leaves_it : Event → Bool
leaves_it event = leaves_what event.what

-- This ends the game from that time on, and no sooner.
abbrev pub EndsFrom : ℕ → Event → List Event → Type 0
EndsFrom from event past = (from ≤ event.at → ended_by event past ≡ Some Stood) × (event.at < from → ended_by event past ≡ None)

-- A result that was given, and that nothing has touched since, ends the game at the first time at which the board is heard ten seconds
-- later. Until then no hearing ends it.
abbrev pub EndsAfterTenSeconds : Type 0
EndsAfterTenSeconds = (added : Bool) (given heard : Event) (later past : List Event) → GivesIt added given.what → list_all leaves_it later ≡ true
    → is_over (later ++ given ∷ past) ≡ false → heard.what ≡ Hears → EndsFrom (given.at + 10000) heard (later ++ given ∷ past)

-- If the board isn't heard, it ends the game at the first time that is told 17 seconds later, or ten seconds if an arbiter gave it. Until
-- then no time ends it.
abbrev pub EndsUnheard : Type 0
EndsUnheard = (added : Bool) (given time : Event) (later past : List Event) → GivesIt added given.what → list_all leaves_it later ≡ true
    → is_over (later ++ given ∷ past) ≡ false → time.what ≡ Passes
    → EndsFrom (given.at + (if added then 10000 else 17000)) time (later ++ given ∷ past)

-- With this the game keeps its result, though it may have stood for less time.
abbrev pub keeps_what : Happening → Bool
keeps_what Resumes = true
keeps_what other = leaves_what other

abbrev pub keeps_it : Event → Bool
keeps_it event = keeps_what event.what

-- Another move on the board after the result ends the game.
abbrev pub NextMoveEnds : Type 0
NextMoveEnds = (added : Bool) (move : Move) (given next : Event) (later past : List Event) → GivesIt added given.what → list_all keeps_it later ≡ true
    → is_over (later ++ given ∷ past) ≡ false → next.what ≡ Moves move → move.is_added ≡ false → move.corrects ≡ false
    → ended_by next (later ++ given ∷ past) ≡ Some PlaysOn

-- A correction on the board ends it too, if the kings or an arbiter gave the result. Mate and stalemate are taken back by it.
abbrev pub CorrectionEnds : Type 0
CorrectionEnds = (added : Bool) (outcome : Outcome) (move : Move) (given correction : Event) (later past : List Event) → list_all keeps_it later ≡ true
    → is_over (later ++ given ∷ past) ≡ false → correction.what ≡ Moves move → move.is_added ≡ false → move.corrects ≡ true
    → (given.what ≡ Declares outcome added → ended_by correction (later ++ given ∷ past) ≡ Some Corrected)
    × (given.what ≡ Ends outcome added → ended_by correction (later ++ given ∷ past) ≡ None)
